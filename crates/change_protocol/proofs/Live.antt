-- The live entry of a slot.
use Rattle.std.proofs.Common.{◌≡◌, Bool, true, false, Some, None, IfSome, List, [], ◌∷◌, All, refl, sym, ◌∙◌, ⊎_elim}
use Rattle.std.specs.List.{find}
use Rattle.std.proofs.lemmas.Bool.{cases_Bool}
use Rattle.std.proofs.lemmas.List.Elements.{All-nil, All-cons, All-head, All-tail}

-- what is found passes the test, and has what all have
pub find-kept : {X : Type 0} (P : X → Type 0) (test : X → Bool) (xs : List X) → All P xs → IfSome (find test xs) (λ x. P x × (test x ≡ true))
find-kept P test [] all = tt
find-kept P test (x ∷ xs) all =
    ⊎_elim
    (λ (yes : test x ≡ true).
    let found : find test (x ∷ xs) ≡ Some x = rw yes refl in
    rw found (All-head P x xs all, yes))
    (λ (no : test x ≡ false).
    let found : find test (x ∷ xs) ≡ find test xs = rw no refl in
    rw found (find-kept P test xs (All-tail P x xs all)))
    (cases_Bool (test x))

-- where nothing is found, nothing passes the test
pub find-none : {X : Type 0} (test : X → Bool) (xs : List X) → find test xs ≡ None → All (λ x. test x ≡ false) xs
find-none test [] none = All-nil (λ x. test x ≡ false)
find-none test (x ∷ xs) none =
    ⊎_elim
    (λ (yes : test x ≡ true). absurd (let found : find test (x ∷ xs) ≡ Some x = rw yes refl in cc))
    (λ (no : test x ≡ false).
    let found : find test (x ∷ xs) ≡ find test xs = rw no refl in
    All-cons (λ x. test x ≡ false) x xs no (find-none test xs (sym found ∙ none)))
    (cases_Bool (test x))
