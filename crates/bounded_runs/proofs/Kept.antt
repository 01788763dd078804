-- What a filter keeps, and elements by their places.
use Rattle.std.proofs.Common.{◌≡◌, ℕ, zero, suc, ◌<◌, Bool, true, List, [], ◌∷◌, ◌++◌, AllPairs, Contains, Some, filter, length, get_or, slice_get, refl, subst, arith, length-append}
use Rattle.std.proofs.lemmas.List.{get_or_append_left}
use Rattle.std.proofs.lemmas.List.Elements.{All-contains, All-contains_itself, All-filter, filter_passes}
use Rattle.std.proofs.lemmas.Option.{get_or_from_slice_get, slice_get_within}

module _ {X : Type 0} (test : X → Bool) where
  -- what is kept is an element
  pub kept-of : (xs : List X) (x : X) → Contains (filter test xs) x → Contains xs x
  kept-of xs x has = All-contains (Contains xs) (filter test xs) x (All-filter test (Contains xs) xs (All-contains_itself xs)) has

  -- and passes
  pub kept-passes : (xs : List X) (x : X) → Contains (filter test xs) x → test x ≡ true
  kept-passes xs x has = All-contains (λ y. test y ≡ true) (filter test xs) x (filter_passes test xs) has

module _ {X : Type 0} where
  -- an element of the front, and one put behind it
  pub get-front : (xs ys : List X) (i : ℕ) → i < length xs → slice_get (xs ++ ys) i ≡ slice_get xs i
  get-front [] ys i within = absurd (omega arith)
  get-front (x ∷ xs) ys zero within = refl
  get-front (x ∷ xs) ys (suc i) within = get-front xs ys i (omega arith)

  pub get-last : (xs : List X) (y : X) (i : ℕ) → i ≡ length xs → slice_get (xs ++ y ∷ []) i ≡ Some y
  get-last [] y zero is = refl
  get-last [] y (suc i) is = absurd (omega (arith, is))
  get-last (x ∷ xs) y zero is = absurd (omega (arith, is))
  get-last (x ∷ xs) y (suc i) is = get-last xs y i (omega (arith, is))

  pub Contains-place : (xs : List X) (i : ℕ) (x : X) → slice_get xs i ≡ Some x → Contains xs x
  Contains-place xs i x is = (i, slice_get_within xs i x is, get_or_from_slice_get xs i x x is)

  -- what holds of each pair holds of each pair of the front
  pub AllPairs-front : (R : X → X → Type 0) (xs ys : List X) → AllPairs R (xs ++ ys) → AllPairs R xs
  AllPairs-front R xs ys pairs i j d before within =
      let long = length-append xs ys in
      let both = pairs i j d before (omega (arith, long, within)) in
      let one = subst (λ z. R z (get_or (xs ++ ys) j d)) (get_or_append_left xs ys d i (omega (arith, before, within))) both in
      subst (λ z. R (get_or xs i d) z) (get_or_append_left xs ys d j within) one
