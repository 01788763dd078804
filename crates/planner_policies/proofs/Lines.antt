-- Lists of instances in key order, and one more put in.
use Rattle.std.proofs.Common.{◌≡◌, ◌≢◌, ℕ, zero, suc, ◌+◌, ◌<◌, ◌≤◌, true, false, List, [], ◌∷◌, ◌++◌, All, length, get_or, set, take, drop, refl, sym, ap, ◌∙◌, ◌⊎◌, inl, inr, ⊎_elim, arith}
use Rattle.std.proofs.lemmas.Grind.{common_steps}
use Rattle.std.proofs.lemmas.List.{get_or-drop, length-drop, get_or-set_other, get_or-set_same, get_or-take, length-take-le, take-append-drop, take-take}
use Rattle.std.proofs.Math.ListN.{length-set}
use Rattle.std.proofs.lemmas.Bool.{cases_eq}
use Rattle.planner_policies.proofs.KeyOrder.{due_by-trans}
use Rattle.planner_policies.specs.declared.due.Due.{Due}
use Rattle.planner_policies.specs.Due.{IsLined, IsPutIn, is_due_by}

-- lists that agree below n have the same first n elements
pub take-same : {X : Type 0} (n : ℕ) (xs ys : List X) → n ≤ length xs → n ≤ length ys
    → ((k : ℕ) (d : X) → k < n → get_or xs k d ≡ get_or ys k d) → take n xs ≡ take n ys
take-same zero xs ys in_xs in_ys same = refl
take-same (suc n) [] ys in_xs in_ys same = absurd (omega arith)
take-same (suc n) (x ∷ xs) [] in_xs in_ys same = absurd (omega arith)
take-same (suc n) (x ∷ xs) (y ∷ ys) in_xs in_ys same =
    let first : x ≡ y = same 0 x (omega arith) in
    let rest = take-same n xs ys (omega arith) (omega arith) (λ k d below. same (suc k) d (omega arith)) in
    cc

-- an element is written at a place behind which the others have moved up by one
pub moved-up : {X : Type 0} (place n : ℕ) (was now : List X) (x : X) → length now ≡ length was → n < length was → place ≤ n
    → ((k : ℕ) (d : X) → k < place → get_or now k d ≡ get_or was k d)
    → ((k : ℕ) (d : X) → place ≤ k → k < n → get_or now (k + 1) d ≡ get_or was k d)
    → take (suc n) (set now place x) ≡ take place was ++ (x ∷ drop place (take n was))
moved-up zero n was [] x same within below front moved = absurd (omega arith)
moved-up zero n was (y ∷ now) x same within below front moved = grind (arith, take-same)
moved-up (suc place) zero was now x same within below front moved = absurd (omega arith)
moved-up (suc place) (suc n) [] now x same within below front moved = absurd (omega arith)
moved-up (suc place) (suc n) (w ∷ was) [] x same within below front moved = absurd (omega arith)
moved-up (suc place) (suc n) (w ∷ was) (y ∷ now) x same within below front moved =
    let first : y ≡ w = front 0 y (omega arith) in
    let rest = moved-up place n was now x (omega arith) (omega arith) (omega arith)
    (λ k d under. front (suc k) d (omega arith))
    (λ k d above under. let next : suc k + 1 ≡ suc (k + 1) = omega arith in let here = moved (suc k) d (omega arith) (omega arith) in rw next at here) in
    cc

-- a read within a list does not look at what stands behind it
pub same-read : {X : Type 0} (xs : List X) (i : ℕ) (d e : X) → i < length xs → get_or xs i d ≡ get_or xs i e
same-read xs i d e within = grind (arith, common_steps)

-- the instances from `place` on, which do not go before `due`, have moved up by one
pub record IsMovedUp (was now : List Due) (due : Due) (place count : ℕ) : Type 0 where
  pub room : count < length was
  pub after : length now ≡ length was
  pub within : place ≤ count
  pub front : (k : ℕ) (d : Due) → k < place → get_or now k d ≡ get_or was k d
  pub moved : (k : ℕ) (d : Due) → place ≤ k → k < count → get_or now (k + 1) d ≡ get_or was k d
  pub behind : (k : ℕ) (d : Due) → place ≤ k → k < count → is_due_by (get_or was k d) due ≡ false

pub moved_up-start : (was : List Due) (due : Due) (count : ℕ) → count < length was → IsMovedUp was was due count count
moved_up-start was due count room = grind arith

pub moved_up-next : (was now : List Due) (due e : Due) (place less count : ℕ) → place ≡ suc less → IsMovedUp was now due place count
    → is_due_by (get_or now less e) due ≡ false → IsMovedUp was (set now place (get_or now less e)) due less count
moved_up-next was now due e place less count next before wrong = grind (arith, length-set, get_or-set_other, get_or-set_same, same-read)

-- the instance before the place, where there is one, goes before the new one
abbrev pub IsAtPlace : List Due → Due → ℕ → Type 0
IsAtPlace now due place = (place ≡ 0) ⊎ ((e : Due) × (less : ℕ) × (place ≡ suc less) × (is_due_by (get_or now less e) due ≡ true))

front-before : (was now : List Due) (due e : Due) (less place count : ℕ) → place ≡ suc less → IsMovedUp was now due place count
    → IsLined (take count was) → is_due_by (get_or now less e) due ≡ true → (k : ℕ) → k < place → is_due_by (get_or was k e) due ≡ true
front-before was now due e less place count next moved lined last k below =
    let at : get_or now less e ≡ get_or was less e = moved.front less e (omega arith) in
    let here : is_due_by (get_or was less e) due ≡ true = ap (λ x. is_due_by x due) (sym at) ∙ last in
    ⊎_elim
    (λ (same : k ≡ less). ap (λ i. is_due_by (get_or was i e) due) same ∙ here)
    (λ (other : k ≢ less).
    let under_less : less < count = omega arith in
    let pair = lined k less e (omega arith) (omega (arith, length-take-le count was)) in
    let first : is_due_by (get_or was k e) (get_or was less e) ≡ true
    = grind (arith, get_or-take) in
    due_by-trans (get_or was k e) (get_or was less e) due first here)
    (cases_eq k less)

all-before : (was now : List Due) (due : Due) (place count : ℕ) → IsMovedUp was now due place count → IsLined (take count was) → IsAtPlace now due place
    → All (λ other. is_due_by other due ≡ true) (take place was)
all-before was now due place count moved lined (inl none) = λ k d below. absurd (omega (arith, length-take-le place was))
all-before was now due place count moved lined (inr last) = λ k d below.
    let under : k < place = omega (arith, length-take-le place was) in
    ap (λ x. is_due_by x due) (get_or-take place was k d under ∙ same-read was k d last.0 (omega arith))
    ∙ front-before was now due last.0 last.1 place count last.2 moved lined last.3 k under

all-behind : (was now : List Due) (due : Due) (place count : ℕ) → IsMovedUp was now due place count
    → All (λ other. is_due_by other due ≡ false) (drop place (take count was))
all-behind was now due place count moved = grind (arith, length-drop, length-take-le, get_or-drop, get_or-take)

pub put_in : (was now old : List Due) (due : Due) (place count : ℕ) → IsMovedUp was now due place count → take count was ≡ old → IsLined old
    → IsAtPlace now due place → IsPutIn due old (take (count + 1) (set now place due))
put_in was now old due place count moved view lined at =
    let within = moved.within in
    let shown : IsLined (take count was) = rw view lined in
    record {
      front = take place was;
      back = drop place (take count was);
      was = sym view ∙ sym (take-append-drop place (take count was)) ∙ ap (λ xs. xs ++ drop place (take count was)) (take-take place count was within);
      is = grind (arith, moved-up);
      before = all-before was now due place count moved shown at;
      behind = all-behind was now due place count moved;
    }
