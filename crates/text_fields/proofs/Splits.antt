-- A list of bytes is split at its first mark, or at its last one, in one way.
use Rattle.std.proofs.Common.{◌≡◌, ◌≢◌, ℕ, zero, suc, ◌<◌, Bool, true, false, List, [], ◌∷◌, ◌++◌, length, get_or}
use Rattle.std.proofs.Common.{refl, sym, ap, arith}
use Rattle.std.specs.List.{list_all}
use Rattle.std.proofs.lemmas.Bool.{and_parts}

module _ (mark : ℕ) where
  abbrev pub HasNo : List ℕ → Type 0
  HasNo bytes = (i : ℕ) → i < length bytes → get_or bytes i 0 ≢ mark

  no-first : (x : ℕ) (xs : List ℕ) → HasNo (x ∷ xs) → x ≢ mark
  no-first x xs none = none 0 (omega arith)

  pub no-rest : (x : ℕ) (xs : List ℕ) → HasNo (x ∷ xs) → HasNo xs
  no-rest x xs none i within = none (suc i) (omega arith)

  pub same_split : (xs ys r s : List ℕ) → HasNo xs → HasNo ys → xs ++ mark ∷ r ≡ ys ++ mark ∷ s → (xs ≡ ys) × (r ≡ s)
  same_split [] [] r s one other same = (refl, cc)
  same_split [] (y ∷ ys) r s one other same = let first : mark ≡ y = cc in absurd (no-first y ys other (sym first))
  same_split (x ∷ xs) [] r s one other same = let first : x ≡ mark = cc in absurd (no-first x xs one first)
  same_split (x ∷ xs) (y ∷ ys) r s one other same =
      let first : x ≡ y = cc in
      let rest : xs ++ mark ∷ r ≡ ys ++ mark ∷ s = cc in
      let more = same_split xs ys r s (no-rest x xs one) (no-rest y ys other) rest in
      let tails = more.0 in
      (cc, more.1)

  -- without a mark there is no split
  pub no_split : (xs front r : List ℕ) → HasNo xs → xs ≡ front ++ mark ∷ r → ⊥
  no_split xs [] r none is = rw is at none 0 (omega arith) refl
  no_split [] (y ∷ front) r none is = cc
  no_split (x ∷ xs) (y ∷ front) r none is =
      let rest : xs ≡ front ++ mark ∷ r = cc in no_split xs front r (no-rest x xs none) rest

  pub same_last : (xs ys r s : List ℕ) → HasNo r → HasNo s → xs ++ mark ∷ r ≡ ys ++ mark ∷ s → (xs ≡ ys) × (r ≡ s)
  same_last [] [] r s one other same = (refl, cc)
  same_last [] (y ∷ ys) r s one other same = let rest : r ≡ ys ++ mark ∷ s = cc in absurd (no_split r ys s one rest)
  same_last (x ∷ xs) [] r s one other same = let rest : s ≡ xs ++ mark ∷ r = cc in absurd (no_split s xs r other rest)
  same_last (x ∷ xs) (y ∷ ys) r s one other same =
      let first : x ≡ y = cc in
      let rest : xs ++ mark ∷ r ≡ ys ++ mark ∷ s = cc in
      let more = same_last xs ys r s one other rest in
      let tails = more.0 in
      (cc, more.1)

  pub no-append : (xs ys : List ℕ) → HasNo xs → HasNo ys → HasNo (xs ++ ys)
  no-append [] ys one other i within = other i within
  no-append (x ∷ xs) ys one other zero within = one zero (omega arith)
  no-append (x ∷ xs) ys one other (suc i) within = no-append xs ys (no-rest x xs one) other i (omega arith)

  -- bytes of a kind to which the mark does not belong
  pub no-all : (p : ℕ → Bool) → p mark ≡ false → (xs : List ℕ) → list_all p xs ≡ true → HasNo xs
  no-all p none [] all i within = absurd (omega arith)
  no-all p none (x ∷ xs) all zero within = λ is.
      let here = (and_parts (p x) (list_all p xs) all).0 in
      let same = ap p is in
      absurd (cc)
  no-all p none (x ∷ xs) all (suc i) within = no-all p none xs (and_parts (p x) (list_all p xs) all).1 i (omega arith)
