-- With the filling `Prefix` what is planned is the longest front, in key order, of the pending slots that fits the window.
use Rattle.std.proofs.Common.{◌≡◌, ◌≢◌, ℕ, suc, ◌+◌, ◌-◌, ◌<◌, ◌≤◌, ◌&&◌, ◌↔◌, not, Bool, true, false, nat_eq, nat_le, List, [], ◌∷◌, All, AllPairs, Contains, length, get_or, take, drop, refl, sym, ap, ◌∙◌, ⊎_elim, arith}
use Rattle.std.proofs.lemmas.Grind.{common_steps}
use Rattle.std.specs.List.{list_any, sum_by}
use Rattle.std.proofs.lemmas.Bool.{and_from, and_parts, both_ways, cases_eq, cases_lt, eq-eqb, eqb-true, false_from_ne_true, le-leb, leb-true, not-true, not_from_false}
use Rattle.std.proofs.lemmas.List.{get_or-drop, get_or-take, length-drop, length-take-le, take-take}
use Rattle.std.proofs.lemmas.List.Elements.{All-contains, All-head, All-tail, All-take}
use Rattle.std.proofs.lemmas.List.Folds.{Any-from_list_any, list_any_at}
use Rattle.std.proofs.lemmas.List.Sums.{sum_by-cons, sum_by-take-le}
use Rattle.bit_sets.specs.Sets.{most_slots, sum_where}
use Rattle.requirement_table.specs.Table.{width_in, worst_in}
use Rattle.bit_sets.proofs.Shared.{sum_where-same, sum_where-none, sum_where-with}
use Rattle.planner_policies.specs.Order.{IsInKeyOrder, IsLongestFront}
use Rattle.planner_policies.specs.declared.Fill.TheVariants.{Prefix}
use Rattle.planner_policies.specs.Plan.{Planning, is_by, left_after, pending_in, planned_in}
use Rattle.planner_policies.proofs.Filling.{in-front, same-test}
use Rattle.planner_policies.proofs.KeyOrder.{is_by-antisym, is_by-refl}
use Rattle.planner_policies.proofs.Lines.{same-read}
use Rattle.planner_policies.proofs.Pairs.{pairs-head, pairs-tail, pairs-take}

-- the test of a list
abbrev pub has : List ℕ → ℕ → Bool
has xs slot = list_any (λ x. nat_eq x slot) xs

not-in : (x : ℕ) (xs : List ℕ) → All (λ w. x ≢ w) xs → has xs x ≡ false
not-in x xs apart =
    false_from_ne_true (has xs x) (λ test.
    let any = Any-from_list_any (λ w. nat_eq w x) xs test in
    let same : any.1 ≡ x = eqb-true any.1 x any.4 in
    All-contains (λ w. x ≢ w) xs any.1 apart (any.0, any.2, any.3) (sym same))

-- the sum over the slots of a list of distinct slots
pub sum_where-list : (n : ℕ) (xs : List ℕ) (f : ℕ → ℕ) → All (λ x. x < n) xs → AllPairs (λ v w. v ≢ w) xs
    → sum_where n (has xs) f ≡ sum_by f xs
sum_where-list n [] f below distinct = sum_where-none n (λ _. false) f (λ s _. refl)
sum_where-list n (x ∷ xs) f below distinct =
    sum_where-with n x (has xs) f (All-head (λ w. w < n) x xs below) (not-in x xs (pairs-head (λ v w. v ≢ w) x xs distinct))
    ∙ ap (λ m. f x + m) (sum_where-list n xs f (All-tail (λ w. w < n) x xs below) (pairs-tail (λ v w. v ≢ w) x xs distinct))
    ∙ sym (sum_by-cons f x xs)

-- the slots up to the i-th one are those that go before it
up-to : (plan : Planning) (c : ℕ) (before : ℕ → Bool) (order : List ℕ) (i slot other : ℕ) → IsInKeyOrder plan c before order → i < length order
    → get_or order i slot ≡ slot → other < most_slots
    → (pending_in plan.placed c before other && is_by plan.policy plan.placed c other slot) ≡ has (take (suc i) order) other
up-to plan c before order i slot other sorted within at known =
    same-test (pending_in plan.placed c before other && is_by plan.policy plan.placed c other slot) (has (take (suc i) order) other)
    (λ both.
    let parts = and_parts (pending_in plan.placed c before other) (is_by plan.policy plan.placed c other slot) both in
    let stands = (sorted.pending other known).0 parts.0 in
    let j = stands.0 in
    let in_j = stands.1 in
    let read : get_or order j slot ≡ other = same-read order j slot other in_j ∙ stands.2 in
    ⊎_elim
    (λ (early : j < suc i).
    let short : j < length (take (suc i) order) = omega (arith, length-take-le (suc i) order) in
    list_any_at (λ x. nat_eq x other) (take (suc i) order) j slot short
    (eq-eqb (get_or (take (suc i) order) j slot) other (get_or-take (suc i) order j slot early ∙ read)))
    (λ (late : suc i ≤ j). grind (arith, is_by-antisym))
    (cases_lt j (suc i)))
    (λ found.
    let any = Any-from_list_any (λ x. nat_eq x other) (take (suc i) order) found in
    let j = any.0 in
    let below : j < suc i = omega (arith, any.2, length-take-le (suc i) order) in
    let value : any.1 ≡ other = eqb-true any.1 other any.4 in
    let in_j : j < length order = omega arith in
    let read : get_or order j slot ≡ other
    = same-read order j slot any.1 in_j ∙ sym (get_or-take (suc i) order j any.1 below) ∙ any.3 ∙ value in
    let pending = (sorted.pending other known).1 (j, in_j, same-read order j other slot in_j ∙ read) in
    let by : is_by plan.policy plan.placed c other slot ≡ true
    = ⊎_elim
    (λ (here : j ≡ i). grind (arith, common_steps, is_by-refl))
    (λ (apart : j ≢ i).
    let pair : is_by plan.policy plan.placed c (get_or order j slot) (get_or order i slot) ≡ true = sorted.in_order j i slot (omega arith) within in
    ap (λ x. is_by plan.policy plan.placed c x slot) (sym read) ∙ ap (λ x. is_by plan.policy plan.placed c (get_or order j slot) x) (sym at) ∙ pair)
    (cases_eq j i) in
    and_from (pending_in plan.placed c before other) (is_by plan.policy plan.placed c other slot) pending by)

-- what the slots up to the i-th one cost together
width-up-to : (plan : Planning) (c : ℕ) (before : ℕ → Bool) (order : List ℕ) (i slot : ℕ) → IsInKeyOrder plan c before order → i < length order
    → get_or order i slot ≡ slot
    → width_in plan.placed c (λ other. pending_in plan.placed c before other && is_by plan.policy plan.placed c other slot)
    ≡ sum_by (worst_in plan.placed c) (take (suc i) order)
width-up-to plan c before order i slot sorted within at =
    sum_where-same most_slots (λ other. pending_in plan.placed c before other && is_by plan.policy plan.placed c other slot) (has (take (suc i) order))
    (worst_in plan.placed c) (λ other known. up-to plan c before order i slot other sorted within at known)
    ∙ sum_where-list most_slots (take (suc i) order) (worst_in plan.placed c) (All-take (λ x. x < most_slots) (suc i) order sorted.known)
    (pairs-take (λ v w. v ≢ w) (suc i) order sorted.distinct)

pub planned-iff : (plan : Planning) (c : ℕ) (before : ℕ → Bool) (order : List ℕ) (n slot : ℕ) → plan.fill ≡ Prefix → IsInKeyOrder plan c before order
    → IsLongestFront (worst_in plan.placed c) plan.window order n → slot < most_slots → (planned_in plan c before slot ≡ true) ↔ Contains (take n order) slot
planned-iff plan c before order n slot prefix sorted front known = (
  λ planned.
      let w = width_in plan.placed c (λ other. pending_in plan.placed c before other && is_by plan.policy plan.placed c other slot) in
      let taken = in-front plan.policy plan.window plan.placed c (pending_in plan.placed c before) plan.fill slot prefix in
      let parts = and_parts (pending_in plan.placed c before slot) (nat_le w plan.window) (sym taken ∙ planned) in
      let stands = (sorted.pending slot known).0 parts.0 in
      let i = stands.0 in
      let within = stands.1 in
      let width = width-up-to plan c before order i slot sorted within stands.2 in
      let fits = leb-true w plan.window parts.1 in
      let few = front.longest (suc i) (omega arith) (rw (← width) fits) in
      (i, omega (arith, length-take-le n order), get_or-take n order i slot (omega arith) ∙ stands.2),
  λ contains.
      let i = contains.0 in
      let below : i < n = omega (arith, contains.1, length-take-le n order) in
      let within : i < length order = omega arith in
      let at : get_or order i slot ≡ slot = sym (get_or-take n order i slot below) ∙ contains.2 in
      let pending = (sorted.pending slot known).1 (i, within, at) in
      let width = width-up-to plan c before order i slot sorted within at in
      let less : sum_by (worst_in plan.placed c) (take (suc i) order) ≤ sum_by (worst_in plan.placed c) (take n order)
      = rw (← take-take (suc i) n order below) (sum_by-take-le (worst_in plan.placed c) (take n order) (suc i)) in
      let fits = front.fits in
      in-front plan.policy plan.window plan.placed c (pending_in plan.placed c before) plan.fill slot prefix
      ∙ and_from (pending_in plan.placed c before slot) _ pending (le-leb _ plan.window (rw width (omega arith))),
)

pub left-iff : (plan : Planning) (c : ℕ) (before : ℕ → Bool) (order : List ℕ) (n slot : ℕ) → plan.fill ≡ Prefix → IsInKeyOrder plan c before order
    → IsLongestFront (worst_in plan.placed c) plan.window order n → slot < most_slots → (left_after plan c before slot ≡ true) ↔ Contains (drop n order) slot
left-iff plan c before order n slot prefix sorted front known = (
  λ left.
      let parts = and_parts (pending_in plan.placed c before slot) (not (planned_in plan c before slot)) left in
      let stands = (sorted.pending slot known).0 parts.0 in
      let i = stands.0 in
      let within = stands.1 in
      ⊎_elim
      (λ (below : i < n). grind (arith, common_steps, planned-iff, length-take-le, get_or-take, both_ways, not-true))
      (λ (behind : n ≤ i).
      let at : n + (i - n) ≡ i = omega arith in
      (i - n, omega (arith, length-drop n order), get_or-drop n order (i - n) slot ∙ ap (λ k. get_or order k slot) at ∙ stands.2))
      (cases_lt i n),
  λ contains.
      let i = n + contains.0 in
      let within : i < length order = omega (arith, contains.1, length-drop n order) in
      let at : get_or order i slot ≡ slot = sym (get_or-drop n order contains.0 slot) ∙ contains.2 in
      let pending = (sorted.pending slot known).1 (i, within, at) in
      and_from (pending_in plan.placed c before slot) (not (planned_in plan c before slot)) pending
      (grind (arith, not_from_false, false_from_ne_true, planned-iff, length-take-le, get_or-take)),
)
