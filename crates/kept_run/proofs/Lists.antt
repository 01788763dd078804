-- Elements of lists, and what a filter keeps.
use Rattle.std.proofs.Common.{◌≡◌, ◌≢◌, ℕ, ◌<◌, ◌&&◌, Bool, cond, List, [], ◌∷◌, length, get_or, map, filter, All, AllPairs, Contains, Some, refl, sym, ap, ◌∙◌, inl, inr, arith, zero-add}
use Rattle.std.specs.Prelude.{slice_get}
use Rattle.std.specs.List.{range_with_len}
use Rattle.std.proofs.lemmas.Bool.{cases_Bool, cond-true, cond-false, and_left}
use Rattle.std.proofs.lemmas.List.{get_or-map, length-map}
use Rattle.std.proofs.lemmas.List.FromFn.{get_or-range_with_len, length-range_with_len}
use Rattle.std.proofs.lemmas.Option.{slice_get-get_or}
pub use Rattle.cycle_engine.proofs.Shared.{Contains-cases, Contains-filter, Contains-from_map, Contains-here, Contains-later, Contains-nil}
pub use Rattle.bus_line.proofs.Shared.{filter-none}

-- where an element stands
pub place-of : {X : Type 0} (xs : List X) (x : X) → Contains xs x → (k : ℕ) × (slice_get xs k ≡ Some x)
place-of xs x (k, within, is) = (k, slice_get-get_or xs k x within ∙ ap Some is)

-- the elements of a list have the numbers below `n`, in their order
module _ {X : Type 0} (number : X → ℕ) (xs : List X) (n : ℕ) (in_order : map number xs ≡ range_with_len 0 n) where
  pub length-numbered : length xs ≡ n
  length-numbered = sym (length-map xs number) ∙ ap length in_order ∙ length-range_with_len 0 n

  pub number-at : (k : ℕ) (d : X) → k < length xs → number (get_or xs k d) ≡ k
  number-at k d within =
      let all = length-numbered in
      sym (get_or-map number xs k d (number d) within) ∙ ap (λ l. get_or l k (number d)) in_order ∙ get_or-range_with_len 0 n k (number d) (omega arith) ∙ zero-add k

  pub number-below : All (λ x. number x < n) xs
  number-below k d within = let is = number-at k d within in let all = length-numbered in omega arith

  pub numbers-differ : AllPairs (λ one other. number one ≢ number other) xs
  numbers-differ = grind (arith, number-at)

  -- one of them has the number
  pub of-number : (k : ℕ) → k < n → (x : X) × Contains xs x × (number x ≡ k)
  of-number k below =
      Contains-from_map number xs k
      (k, (let all = length-map xs number in let is = length-numbered in omega arith), ap (λ l. get_or l k k) in_order ∙ get_or-range_with_len 0 n k k below ∙ zero-add k)

-- two tests that agree on the elements keep the same ones
pub filter-same : {X : Type 0} (p q : X → Bool) (xs : List X) → ((x : X) → Contains xs x → p x ≡ q x) → filter p xs ≡ filter q xs
filter-same p q [] same = refl
filter-same p q (x ∷ xs) same =
    ap (λ b. cond b (x ∷ filter p xs) (filter p xs)) (same x (Contains-here x xs))
    ∙ ap (λ l. cond (q x) (x ∷ l) l) (filter-same p q xs (λ y among. same y (Contains-later x xs y among)))

-- a filter of a filter
pub filter-filter : {X : Type 0} (p q : X → Bool) (xs : List X) → filter p (filter q xs) ≡ filter (λ x. q x && p x) xs
filter-filter p q [] = refl
filter-filter p q (x ∷ xs) =
    elim (cases_Bool (q x)) [
      | inl on ↦
          ap (filter p) (cond-true (q x) (x ∷ filter q xs) (filter q xs) on)
          ∙ ap (λ l. cond (p x) (x ∷ l) l) (filter-filter p q xs)
          ∙ ap (λ b. cond (b && p x) (x ∷ filter (λ x. q x && p x) xs) (filter (λ x. q x && p x) xs)) (sym on)
      | inr off ↦
          ap (filter p) (cond-false (q x) (x ∷ filter q xs) (filter q xs) off)
          ∙ filter-filter p q xs
          ∙ sym (cond-false (q x && p x) (x ∷ filter (λ x. q x && p x) xs) (filter (λ x. q x && p x) xs) (and_left _ _ off))
    ]
