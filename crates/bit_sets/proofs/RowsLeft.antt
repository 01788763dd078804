-- Rows that are looked through word by word.
use Rattle.std.proofs.Common.{◌≡◌, ℕ, ◌+◌, ◌-◌, ◌*◌, ◌/◌, ◌%◌, ◌^◌, ◌<◌, ◌≤◌, true, false, not, ◌&&◌, nat_eq, bit_and, sym, subst, ◌∙◌, ap, arith, ⊎_elim}
use Rattle.std.proofs.lemmas.Grind.{common_steps}
use Rattle.std.specs.Int.{trailing_zeros, w64}
use Rattle.std.proofs.Math.Bool.{and-false}
use Rattle.std.proofs.lemmas.Bool.{both_ways, cases_lt, eq-eqb, ne_eqb}
use Rattle.std.proofs.lemmas.Nat.{div-add-mod', pow_pos}
use Rattle.std.proofs.lemmas.Nat.Bits.{bit_at-trailing_zeros, bit_at-zero, bit_at_cat_low, bit_at_cat_high}
use Rattle.bit_sets.specs.declared.rows.Rest.{Rest}
use Rattle.bit_sets.specs.Rows.{rows_left}
use Rattle.bit_sets.specs.Sets.{has_bit}
use Rattle.bit_sets.proofs.Bits.{has_bit-high, has_bit-low}
use Rattle.bit_sets.proofs.Lowest.{IsLowest, has_bit-without_lowest, lowest-64, lowest-less}

-- the rows of a present word at `base` and of the word behind it
abbrev pub rows_at : ℕ → ℕ → ℕ → ℕ
rows_at base word behind = (behind * 2 ^ 64 + word) * 2 ^ base + 0

before-base : (base word behind i : ℕ) → i < base → has_bit (rows_at base word behind) i ≡ false
before-base base word behind i before = grind (arith, bit_at_cat_low, bit_at-zero)

from-base : (base word behind i : ℕ) → base ≤ i → has_bit (rows_at base word behind) i ≡ has_bit (behind * 2 ^ 64 + word) (i - base)
from-base base word behind i from = grind (arith, pow_pos, bit_at_cat_high)

module _ (base word behind : ℕ) (some : 0 < word) (below : word < 2 ^ 64) where
  t : ℕ
  t = trailing_zeros w64 word

  low : t < 64
  unfolding t
  low = (bit_at-trailing_zeros w64 word some below).0

  lowest : IsLowest word t
  unfolding t
  lowest = lowest-64 word some below

  stands' : has_bit (rows_at base word behind) (base + t) ≡ true
  stands' = grind (arith, t, from-base, has_bit-low, low, lowest)

  none' : (i : ℕ) → i < base + t → has_bit (rows_at base word behind) i ≡ false
  none' i under = grind (arith, before-base, low, from-base, has_bit-low, lowest, cases_lt)

  less : ℕ
  less = bit_and word (word - 1)

  shorter : less < word
  unfolding less
  shorter = lowest-less word some

  word-less : (j : ℕ) → has_bit less j ≡ (not (nat_eq t j) && has_bit word j)
  unfolding less
  word-less j = has_bit-without_lowest word t lowest j

  shifted : (i : ℕ) → base ≤ i → nat_eq t (i - base) ≡ nat_eq (base + t) i
  shifted i from = grind (arith, t, eq-eqb, ne_eqb)

  without' : (i : ℕ) → has_bit (rows_at base less behind) i ≡ (not (nat_eq (base + t) i) && has_bit (rows_at base word behind) i)
  without' i =
      ⊎_elim
      (λ (before : i < base). grind (arith, common_steps, before-base, less, t, and-false))
      (λ (from : base ≤ i).
      from-base base less behind i from ∙ here i from ∙ sym (ap (λ b. not (nat_eq (base + t) i) && b) (from-base base word behind i from)))
      (cases_lt i base)
    where
      here : (i : ℕ) → base ≤ i → has_bit (behind * 2 ^ 64 + less) (i - base) ≡ (not (nat_eq (base + t) i) && has_bit (behind * 2 ^ 64 + word) (i - base))
      here i from = grind (arith, has_bit-low, less, word-less, shifted, t, low, shorter, ne_eqb, has_bit-high, cases_lt)

  pub first-stands : has_bit (rows_at base word behind) (base + trailing_zeros w64 word) ≡ true
  unfolding t
  first-stands = stands'

  pub first-none : (i : ℕ) → i < base + trailing_zeros w64 word → has_bit (rows_at base word behind) i ≡ false
  unfolding t
  first-none = none'

  -- the first row is the only one that stands and has none before it
  pub less-rows : (row : ℕ) → has_bit (rows_at base word behind) row ≡ true → ((i : ℕ) → i < row → has_bit (rows_at base word behind) i ≡ false)
      → (i : ℕ) → has_bit (rows_at base (bit_and word (word - 1)) behind) i ≡ (not (nat_eq row i) && has_bit (rows_at base word behind) i)
  unfolding less
  less-rows row stands none i =
      let P : ℕ → Type 0 = λ r. has_bit (rows_at base less behind) i ≡ (not (nat_eq r i) && has_bit (rows_at base word behind) i) in
      subst P (same-first (base + t) row stands' none' stands none) (without' i)
    where
      same-first : (a b : ℕ) → has_bit (rows_at base word behind) a ≡ true → ((i : ℕ) → i < a → has_bit (rows_at base word behind) i ≡ false)
          → has_bit (rows_at base word behind) b ≡ true → ((i : ℕ) → i < b → has_bit (rows_at base word behind) i ≡ false) → a ≡ b
      same-first a b in-a none-a in-b none-b = grind (arith, both_ways, cases_lt)

-- a set is its two words
pub whole-set : (set' : ℕ) → rows_at 0 (set' % 2 ^ 64) (set' / 2 ^ 64) ≡ set'
whole-set set' = let parts = div-add-mod' set' (2 ^ 64) in omega arith

pub next-rows : (behind : ℕ) → rows_at 64 behind 0 ≡ rows_at 0 0 behind
next-rows behind = omega arith

-- where nothing is left
pub none-left : (rest : Rest) → rest.word ≡ 0 → rest.behind ≡ 0 → rows_left rest ≡ 0
none-left rest word behind = grind arith

-- the rows that are left, as the number of a set
pub low-set : (rest : Rest) → rest.base ≡ 0 → rest.behind * 2 ^ 64 + rest.word ≡ rows_left rest
low-set rest low = grind (arith, low)

pub high-set : (rest : Rest) → rest.base ≡ 64 → rest.behind ≡ 0 → rest.word * 2 ^ 64 + 0 ≡ rows_left rest
high-set rest high last = grind arith
