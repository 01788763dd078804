-- Lists by their first element: `All`, `AllPairs` and `Any`, which speak of places, and `filter`.
use Rattle.std.proofs.Common.{◌≡◌, suc, Bool, false, List, [], ◌∷◌, ◌++◌, All, AllPairs, Any, filter, ◌⊎◌, refl, arith}
use Rattle.std.proofs.lemmas.Grind.{common_steps}
use Rattle.std.proofs.lemmas.List.Elements.{All-head, All-tail}

module _ {X : Type 0} (R : X → X → Type 0) where
  pub AllPairs-head : (x : X) (xs : List X) → AllPairs R (x ∷ xs) → All (R x) xs
  AllPairs-head x xs pairs k d within = pairs 0 (suc k) d (omega arith) (omega arith)

  pub AllPairs-tail : (x : X) (xs : List X) → AllPairs R (x ∷ xs) → AllPairs R xs
  AllPairs-tail x xs pairs i j d before within = pairs (suc i) (suc j) d (omega arith) (omega arith)

  pub AllPairs-cons : (x : X) (xs : List X) → All (R x) xs → AllPairs R xs → AllPairs R (x ∷ xs)
  AllPairs-cons x xs first pairs = grind arith

  pub AllPairs-push : (xs : List X) (y : X) → AllPairs R xs → All (λ x. R x y) xs → AllPairs R (xs ++ y ∷ [])
  AllPairs-push xs y pairs all = grind (arith, common_steps, AllPairs-cons, AllPairs-head, AllPairs-tail)

module _ {X : Type 0} (P : X → Type 0) where
  pub Any-nil : Any P [] → ⊥
  Any-nil (k, x, within, same, is) = omega arith

  pub Any-head : (x : X) (xs : List X) → P x → Any P (x ∷ xs)
  Any-head x xs is = (0, x, omega arith, refl, is)

  pub Any-tail : (x : X) (xs : List X) → Any P xs → Any P (x ∷ xs)
  Any-tail x xs (k, y, within, same, is) = (suc k, y, omega arith, same, is)

  pub Any-cases : (x : X) (xs : List X) → Any P (x ∷ xs) → P x ⊎ Any P xs
  Any-cases x xs h0 = grind arith

  pub Any-none : (xs : List X) → All (λ x. P x → ⊥) xs → Any P xs → ⊥
  Any-none xs none any = grind (arith, Any-nil, Any-cases)

  pub Any-push_left : (xs : List X) (y : X) → Any P xs → Any P (xs ++ y ∷ [])
  Any-push_left xs y any = grind (arith, common_steps, Any-nil, Any-cases, Any-head, Any-tail)

  pub Any-push_last : (xs : List X) (y : X) → P y → Any P (xs ++ y ∷ [])
  Any-push_last xs y is = grind (arith, common_steps, Any-head, Any-tail)

-- no element passes
pub filter-none : {X : Type 0} (test : X → Bool) (xs : List X) → All (λ x. test x ≡ false) xs → filter test xs ≡ []
filter-none test [] none = refl
filter-none test (x ∷ xs) none =
    rw (All-head (λ y. test y ≡ false) x xs none) (filter-none test xs (All-tail (λ y. test y ≡ false) x xs none))
