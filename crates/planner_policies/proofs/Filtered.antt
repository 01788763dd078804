-- What a test keeps of a list and of the same elements in another order are the same elements.
use Rattle.std.proofs.Common.{ℕ, zero, suc, ◌<◌, Bool, true, false, cond, List, [], ◌∷◌, length, filter, slice_index_or, slice_set, arith}
use Rattle.std.specs.List.{swap}
use Rattle.std.specs.List.Sorted.{IsPermutation}
use Rattle.std.proofs.lemmas.List.Sorted.{IsPermutation-refl, IsPermutation-sym, IsPermutation-cons, IsPermutation-middle, IsPermutation-trans, IsPermutation-keeps}

module _ {X : Type 0} (test : X → Bool) where
  -- what the test keeps of both lists are the same elements
  abbrev KeepsSame : List X → List X → Type 0
  KeepsSame xs ys = IsPermutation (filter test xs) (filter test ys)

  cons-same : (x : X) (b : Bool) (xs ys : List X) → IsPermutation xs ys → IsPermutation (cond b (x ∷ xs) xs) (cond b (x ∷ ys) ys)
  cons-same x true xs ys same = IsPermutation-cons x xs ys same
  cons-same x false xs ys same = same

  turned : (x y : X) (b c : Bool) (xs : List X)
      → IsPermutation (cond b (x ∷ cond c (y ∷ xs) xs) (cond c (y ∷ xs) xs)) (cond c (y ∷ cond b (x ∷ xs) xs) (cond b (x ∷ xs) xs))
  turned x y true true xs = IsPermutation-middle (x ∷ []) y xs
  turned x y true false xs = IsPermutation-refl (x ∷ xs)
  turned x y false true xs = IsPermutation-refl (y ∷ xs)
  turned x y false false xs = IsPermutation-refl xs

  -- an element goes to a place, and the one from there to the front
  moved : (d x : X) (xs : List X) (j : ℕ) → j < length xs → KeepsSame (slice_index_or xs j d ∷ slice_set xs j x) (x ∷ xs)
  moved d x [] j within = absurd (omega arith)
  moved d x (y ∷ ys) zero within = turned y x (test y) (test x) (filter test ys)
  moved d x (y ∷ ys) (suc j) within =
      let z : X = slice_index_or ys j d in
      let later : KeepsSame (z ∷ slice_set ys j x) (x ∷ ys) = moved d x ys j (omega arith) in
      IsPermutation-trans (filter test (z ∷ y ∷ slice_set ys j x)) (filter test (y ∷ z ∷ slice_set ys j x)) (filter test (x ∷ y ∷ ys))
      (turned z y (test z) (test y) (filter test (slice_set ys j x)))
      (IsPermutation-trans (filter test (y ∷ z ∷ slice_set ys j x)) (filter test (y ∷ x ∷ ys)) (filter test (x ∷ y ∷ ys))
      (cons-same y (test y) (filter test (z ∷ slice_set ys j x)) (filter test (x ∷ ys)) later)
      (turned y x (test y) (test x) (filter test ys)))

  exchanged : (d : X) (xs : List X) (i j : ℕ) → i < length xs → j < length xs
      → KeepsSame (slice_set (slice_set xs i (slice_index_or xs j d)) j (slice_index_or xs i d)) xs
  exchanged d [] i j one other = absurd (omega arith)
  exchanged d (x ∷ xs) zero zero one other = IsPermutation-refl (filter test (x ∷ xs))
  exchanged d (x ∷ xs) zero (suc j) one other = moved d x xs j (omega arith)
  exchanged d (x ∷ xs) (suc i) zero one other = moved d x xs i (omega arith)
  exchanged d (x ∷ xs) (suc i) (suc j) one other =
      let ys : List X = slice_set (slice_set xs i (slice_index_or xs j d)) j (slice_index_or xs i d) in
      cons-same x (test x) (filter test ys) (filter test xs) (exchanged d xs i j (omega arith) (omega arith))

  swapped : (xs : List X) (i j : ℕ) → i < length xs → j < length xs → KeepsSame (swap xs i j) xs
  swapped [] i j one other = absurd (omega arith)
  swapped (d ∷ xs) i j one other = exchanged d (d ∷ xs) i j one other

  pub IsPermutation-filter : (xs ys : List X) → IsPermutation xs ys → IsPermutation (filter test xs) (filter test ys)
  IsPermutation-filter xs ys same =
      IsPermutation-keeps xs (KeepsSame xs) (IsPermutation-refl (filter test xs))
      (λ l i j one other kept.
      IsPermutation-trans (filter test xs) (filter test l) (filter test (swap l i j)) kept
      (IsPermutation-sym (filter test (swap l i j)) (filter test l) (swapped l i j one other)))
      ys same
