-- The lowest bit of a set, and a set without it: a number and one less have the same bits above the lowest 1.
use Rattle.std.proofs.Common.{◌≡◌, ◌≢◌, ℕ, suc, ◌+◌, ◌-◌, ◌*◌, ◌/◌, ◌%◌, ◌^◌, ◌<◌, ◌≤◌, Bool, true, false, not, ◌&&◌, nat_eq, bit_and, refl, sym, ◌∙◌, ap, arith, ⊎_elim}
use Rattle.std.proofs.lemmas.Grind.{common_steps}
use Rattle.std.specs.Int.{bit_at, trailing_zeros, w64, w128}
use Rattle.std.proofs.Math.Bool.{and-false}
use Rattle.std.proofs.Math.Nat.{add-mul, mod-lt}
use Rattle.std.proofs.lemmas.Bool.{both_ways, cases_eq, cases_lt, eq-eqb, ne_eqb}
use Rattle.std.proofs.lemmas.Nat.{and_le_r, div-add-mod', pow_pos}
use Rattle.std.proofs.lemmas.Nat.Bits.{bit_at-suc, bit_at-trailing_zeros, bit_at_cat_high, bit_at_lowest}
use Rattle.bit_sets.specs.Sets.{has_bit}
use Rattle.bit_sets.proofs.Bits.{bit_at-low, has_bit-and}
use Rattle.bit_sets.proofs.SetOf.{empty-set}

-- the place of the lowest bit of a set
pub record IsLowest (set place : ℕ) : Type 0 where
  pub has : has_bit set place ≡ true
  pub none : (i : ℕ) → i < place → has_bit set i ≡ false

lowest-of : (set place : ℕ) → bit_at set place ≡ 1 → ((i : ℕ) → i < place → bit_at set i ≡ 0) → IsLowest set place
lowest-of set place one zeros = record { has = rw one refl; none = λ i under. rw (zeros i under) refl }

-- of a set of one word, and of a set of two, it is the count of the zeros below it
pub lowest-64 : (set : ℕ) → 0 < set → set < 2 ^ 64 → IsLowest set (trailing_zeros w64 set)
lowest-64 set some below = let bits = bit_at-trailing_zeros w64 set some below in lowest-of set (trailing_zeros w64 set) bits.1 bits.2

pub lowest-128 : (set : ℕ) → 0 < set → set < 2 ^ 128 → IsLowest set (trailing_zeros w128 set)
lowest-128 set some below = let bits = bit_at-trailing_zeros w128 set some below in lowest-of set (trailing_zeros w128 set) bits.1 bits.2

-- a set is an odd number, moved up to this place
record IsMoved (set row : ℕ) : Type 0 where
  half : ℕ
  is : set ≡ (2 * half + 1) * 2 ^ row + 0

low-zero : (set row : ℕ) → ((i : ℕ) → i < row → has_bit set i ≡ false) → set % 2 ^ row ≡ 0
low-zero set row none =
    let room = pow_pos row in
    empty-set row (set % 2 ^ row) (mod-lt set (omega arith)) (λ i low. ap (λ b. nat_eq b 1) (bit_at-low set row i low) ∙ none i low)

is-moved : (set row : ℕ) → IsLowest set row → IsMoved set row
is-moved set row lowest =
    let low = low-zero set row lowest.none in
    let whole : set / 2 ^ row * 2 ^ row + set % 2 ^ row ≡ set = div-add-mod' set (2 ^ row) in
    grind arith

pub lowest-less : (set : ℕ) → 0 < set → bit_and set (set - 1) < set
lowest-less set some = let fewer = and_le_r set (set - 1) in omega arith

one-before : (half room : ℕ) → 0 < room → (2 * half + 1) * room + 0 - 1 ≡ 2 * half * room + (room - 1)
one-before half room some = grind (arith, add-mul)

same-behind : (half j : ℕ) → bit_at (2 * half + 1) (suc j) ≡ bit_at (2 * half) (suc j)
same-behind half j = grind (arith, bit_at-suc)

other-bit : (a b c : Bool) → a ≡ b → (a && b) ≡ a
other-bit a b c same = grind arith

-- what `set & (set - 1)` has
pub has_bit-without_lowest : (set row : ℕ) → IsLowest set row → (i : ℕ) → has_bit (bit_and set (set - 1)) i ≡ (not (nat_eq row i) && has_bit set i)
has_bit-without_lowest set row lowest i =
    let moved = is-moved set row lowest in
    let h = moved.half in
    let room = pow_pos row in
    let less : set - 1 ≡ 2 * h * 2 ^ row + (2 ^ row - 1) = ap (λ m. m - 1) moved.is ∙ one-before h (2 ^ row) room in
    let low : 2 ^ row - 1 < 2 ^ row = omega arith in
    has_bit-and set (set - 1) i
    ∙ ⊎_elim
    (λ (before : i < row). grind (arith, common_steps, ne_eqb))
    (λ (from : row ≤ i).
    let one : bit_at set i ≡ bit_at (2 * h + 1) (i - row) = ap (λ m. bit_at m i) moved.is ∙ bit_at_cat_high (2 * h + 1) row 0 i (omega arith) from in
    let other : bit_at (set - 1) i ≡ bit_at (2 * h) (i - row) = ap (λ m. bit_at m i) less ∙ bit_at_cat_high (2 * h) row (2 ^ row - 1) i low from in
    ⊎_elim
    (λ (same : row ≡ i). grind (arith, eq-eqb, even, and-false))
    (λ (apart : row ≢ i).
    let there : nat_eq row i ≡ false = ne_eqb row i apart in
    let next : i - row ≡ suc (i - row - 1) = omega arith in
    let same : bit_at set i ≡ bit_at (set - 1) i
    = one ∙ ap (bit_at (2 * h + 1)) next ∙ same-behind h (i - row - 1) ∙ ap (bit_at (2 * h)) (sym next) ∙ sym other in
    rw there (other-bit (has_bit set i) (has_bit (set - 1) i) true (ap (λ b. nat_eq b 1) same)))
    (cases_eq row i))
    (cases_lt i row)
  where
    even : (k : ℕ) → bit_at (2 * k) 0 ≡ 0
    even k = let half : 2 * k % 2 ≡ 0 = omega arith in bit_at_lowest (2 * k) ∙ half

-- a row of a set without its first row is one of the others
pub not-first : (set less row i : ℕ) → ((j : ℕ) → has_bit less j ≡ (not (nat_eq row j) && has_bit set j)) → has_bit less i ≡ false
    → row ≢ i → has_bit set i ≡ false
not-first set less row i made out apart = sym (ap (λ b. not b && has_bit set i) (ne_eqb row i apart)) ∙ sym (made i) ∙ out

-- no row of a set is before its first one
pub from-first : (set row i : ℕ) → ((j : ℕ) → j < row → has_bit set j ≡ false) → has_bit set i ≡ true → row ≤ i
from-first set row i none in' = grind (arith, both_ways, cases_lt)
