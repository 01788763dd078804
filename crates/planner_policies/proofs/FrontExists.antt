-- The pending slots can be put in key order, and there is a longest front of them that fits the window.
use Rattle.std.proofs.Common.{◌≡◌, ◌≢◌, ℕ, zero, suc, ◌<◌, ◌≤◌, ◌↔◌, ◌⊎◌, Bool, true, false, nat_le, List, [], ◌∷◌, ◌++◌, All, AllPairs, Contains, length, get_or, take, refl, sym, ap, ◌∙◌, ⊎_elim, arith}
use Rattle.std.proofs.lemmas.Grind.{common_steps}
use Rattle.std.specs.List.{sum_by}
use Rattle.std.proofs.lemmas.Bool.{both_ways, cases_Bool, cases_eq, cases_lt, le-leb, leb-true}
use Rattle.std.proofs.lemmas.List.Elements.{All-cons, All-contains, All-nil, Contains-append_cases, Contains-append_left, Contains-append_right}
use Rattle.bit_sets.specs.Sets.{most_slots}
use Rattle.requirement_table.specs.Table.{worst_in}
use Rattle.planner_policies.specs.Order.{HasLongestFront, IsLongestFront}
use Rattle.planner_policies.specs.Plan.{Planning, is_by, pending_in}
use Rattle.planner_policies.proofs.KeyOrder.{is_by-total, is_by-trans}
use Rattle.planner_policies.proofs.Pairs.{all-join, all-parts, pairs-head, pairs-join, pairs-tail}

cons-at : (x y : ℕ) (xs : List ℕ) (i : ℕ) → i < length (x ∷ xs) → get_or (x ∷ xs) i y ≡ y → (x ≡ y) ⊎ Contains xs y
cons-at x y xs i within is = grind arith

module _ (plan : Planning) (c : ℕ) where
  abbrev Goes : ℕ → ℕ → Type 0
  Goes one other = is_by plan.policy plan.placed c one other ≡ true

  -- where one slot more belongs in a list in key order
  record HasPlace (x : ℕ) (xs : List ℕ) : Type 0 where
    front : List ℕ
    back : List ℕ
    split : xs ≡ front ++ back
    before : All (λ w. Goes w x) front
    behind : All (λ w. Goes x w) back

  all-behind : (x y : ℕ) (ys : List ℕ) → Goes x y → All (λ w. Goes y w) ys → All (λ w. Goes x w) ys
  all-behind x y ys first all = λ k d within. is_by-trans plan.policy plan.placed c x y (get_or ys k d) first (all k d within)

  place-of : (x : ℕ) (xs : List ℕ) → AllPairs Goes xs → HasPlace x xs
  place-of x [] sorted = record { front = []; back = []; split = refl; before = All-nil (λ w. Goes w x); behind = All-nil (λ w. Goes x w) }
  place-of x (y ∷ ys) sorted =
      ⊎_elim
      (λ (first : is_by plan.policy plan.placed c y x ≡ true).
      let rest = place-of x ys (pairs-tail Goes y ys sorted) in
      record {
        front = y ∷ rest.front;
        back = rest.back;
        split = ap (λ zs. y ∷ zs) rest.split;
        before = All-cons (λ w. Goes w x) y rest.front first rest.before;
        behind = rest.behind;
      })
      (λ (later : is_by plan.policy plan.placed c y x ≡ false).
      let here = is_by-total plan.policy plan.placed c y x later in
      record {
        front = [];
        back = y ∷ ys;
        split = refl;
        before = All-nil (λ w. Goes w x);
        behind = All-cons (λ w. Goes x w) y ys here (all-behind x y ys here (pairs-head Goes y ys sorted));
      })
      (cases_Bool (is_by plan.policy plan.placed c y x))

  -- the slots below n that pass a test, each once, in key order
  record IsSorted (p : ℕ → Bool) (n : ℕ) (order : List ℕ) : Type 0 where
    below : All (λ slot. slot < n) order
    distinct : AllPairs (λ one other. one ≢ other) order
    in_order : AllPairs Goes order
    passing : (slot : ℕ) → slot < n → (p slot ≡ true) ↔ Contains order slot

  record HasSorted (p : ℕ → Bool) (n : ℕ) : Type 0 where
    order : List ℕ
    is : IsSorted p n order

  more-below : (n : ℕ) (xs : List ℕ) → All (λ slot. slot < n) xs → All (λ slot. slot < suc n) xs
  more-below n xs all = λ k d within. let less = all k d within in omega arith

  put-one : (p : ℕ → Bool) (n : ℕ) (front back : List ℕ) → IsSorted p n (front ++ back) → All (λ w. Goes w n) front → All (λ w. Goes n w) back
      → p n ≡ true → IsSorted p (suc n) (front ++ (n ∷ back))
  put-one p n front back is before behind passes =
      let parts = all-parts (λ slot. slot < n) front back is.below in
      record {
        below = all-join (λ slot. slot < suc n) front n back (more-below n (front ++ back) is.below) (omega arith);
        distinct = pairs-join (λ one other. one ≢ other) front n back is.distinct
            (λ k d within. let less = parts.0 k d within in omega arith)
            (λ k d within. let less = parts.1 k d within in omega arith);
        in_order = pairs-join Goes front n back is.in_order before behind;
        passing = λ slot known. (
          λ passing.
              ⊎_elim
              (λ (less : slot < n).
              ⊎_elim
              (λ (in_front : Contains front slot). Contains-append_left front (n ∷ back) slot in_front)
              (λ (in_back : Contains back slot).
              Contains-append_right front (n ∷ back) slot (suc in_back.0, (let within = in_back.1 in omega arith), in_back.2))
              (Contains-append_cases front back slot ((is.passing slot less).0 passing)))
              (λ (last : n ≤ slot).
              let same : n ≡ slot = omega arith in
              Contains-append_right front (n ∷ back) slot (0, omega arith, same))
              (cases_lt slot n),
          λ found.
              ⊎_elim
              (λ (in_front : Contains front slot). grind (arith, common_steps))
              (λ (rest : Contains (n ∷ back) slot).
              ⊎_elim
              (λ (same : n ≡ slot). ap p (sym same) ∙ passes)
              (λ (in_back : Contains back slot).
              let less = All-contains (λ s. s < n) back slot parts.1 in_back in
              (is.passing slot less).1 (Contains-append_right front back slot in_back))
              (cons-at n slot back rest.0 rest.1 rest.2))
              (Contains-append_cases front (n ∷ back) slot found),
        );
      }

  keep-all : (p : ℕ → Bool) (n : ℕ) (order : List ℕ) → IsSorted p n order → p n ≡ false → IsSorted p (suc n) order
  keep-all p n order is none = grind (arith, more-below, both_ways, cases_lt)

  sorted-of : (p : ℕ → Bool) (n : ℕ) → HasSorted p n
  sorted-of p zero = grind arith
  sorted-of p (suc n) =
      let rest = sorted-of p n in
      ⊎_elim
      (λ (passes : p n ≡ true).
      let place = place-of n rest.order rest.is.in_order in
      let is : IsSorted p n (place.front ++ place.back) = rw place.split at rest.is in
      record { order = place.front ++ (n ∷ place.back); is = put-one p n place.front place.back is place.before place.behind passes })
      (λ (none : p n ≡ false). record { order = rest.order; is = keep-all p n rest.order rest.is none })
      (cases_Bool (p n))

-- a longest front of at most m, where no longer one fits
record HasLongest (cost : ℕ → ℕ) (window : ℕ) (order : List ℕ) : Type 0 where
  number : ℕ
  is : IsLongestFront cost window order number

longest-of : (cost : ℕ → ℕ) (window : ℕ) (order : List ℕ) (m : ℕ) → m ≤ length order
    → ((k : ℕ) → k ≤ length order → sum_by cost (take k order) ≤ window → k ≤ m) → HasLongest cost window order
longest-of cost window order zero within longest = grind arith
longest-of cost window order (suc m) within longest =
    ⊎_elim
    (λ (fits : nat_le (sum_by cost (take (suc m) order)) window ≡ true).
    record { number = suc m; is = record { within = within; fits = leb-true (sum_by cost (take (suc m) order)) window fits; longest = longest } })
    (λ (wide : nat_le (sum_by cost (take (suc m) order)) window ≡ false).
    longest-of cost window order m (omega arith)
    (λ k few fits.
    let most = longest k few fits in
    ⊎_elim
    (λ (same : k ≡ suc m). grind (arith, both_ways, le-leb))
    (λ (other : k ≢ suc m). omega arith)
    (cases_eq k (suc m))))
    (cases_Bool (nat_le (sum_by cost (take (suc m) order)) window))

pub front-exists : (plan : Planning) (c : ℕ) (before : ℕ → Bool) → HasLongestFront plan c before
front-exists plan c before =
    let sorted = sorted-of plan c (pending_in plan.placed c before) most_slots in
    let longest = longest-of (worst_in plan.placed c) plan.window sorted.order (length sorted.order) (omega arith) (λ k few fits. few) in
    grind arith
