-- Sets bit by bit: one more, one less, two of them taken together, and the two words of one.
use Rattle.std.proofs.Common.{◌≡◌, ◌≢◌, ℕ, ◌+◌, ◌-◌, ◌*◌, ◌/◌, ◌%◌, ◌^◌, ◌<◌, ◌≤◌, ◌&&◌, ◌||◌, true, false, not, nat_eq, bit_and, bit_or, refl, sym, ap, ◌∙◌, ⊎_elim, arith}
use Rattle.std.specs.Int.{bit_at, bit_not, w128}
use Rattle.std.proofs.Math.Nat.{div-div-eq-div-mul}
use Rattle.std.proofs.lemmas.Bool.{both_ways, cases_eq, cases_lt, eqb-false}
use Rattle.std.proofs.lemmas.Bool.Decides.{nat_tests}
use Rattle.std.proofs.lemmas.Nat.{and_le_l, div-add-mod', one_shl, or_lt, pow-add, pow_below}
use Rattle.std.proofs.lemmas.Nat.Bits.{bit_at-lt, bit_at-zero, bit_at_above, bit_at_and, bit_at_cat_high, bit_at_cat_low, bit_at_clear_other, bit_at_clear_same, bit_at_not, bit_at_or, bit_at_set_other, bit_at_set_same, shr_and_one}
use Rattle.bit_sets.specs.Sets.{has_bit}

-- the test of two numbers, turned
pub turned-eq : (one other : ℕ) → nat_eq one other ≡ nat_eq other one
turned-eq one other = grind (arith, nat_tests)

-- the bits of a number from bit `k` on
pub bit_at-shifted : (n k j : ℕ) → bit_at (n / 2 ^ k) j ≡ bit_at n (k + j)
bit_at-shifted n k j = ap (λ m. m % 2) (div-div-eq-div-mul n (2 ^ k) (2 ^ j) ∙ ap (λ m. n / m) (sym (pow-add 2 k j)))

-- the low bits of a number
pub bit_at-low : (n w j : ℕ) → j < w → bit_at (n % 2 ^ w) j ≡ bit_at n j
bit_at-low n w j below = sym (bit_at_cat_low (n / 2 ^ w) w (n % 2 ^ w) j below) ∙ ap (λ m. bit_at m j) (div-add-mod' n (2 ^ w))

-- a bit that is not in the set is 0
pub bit_at-out : (set bit : ℕ) → has_bit set bit ≡ false → bit_at set bit ≡ 0
bit_at-out set bit out = let small = bit_at-lt set bit in let no = eqb-false (bit_at set bit) 1 out in omega arith

-- the empty set has nothing
pub has_bit-none : (bit : ℕ) → has_bit 0 bit ≡ false
has_bit-none bit = rw (bit_at-zero bit) refl

pub has_bit-empty : (set bit : ℕ) → set ≡ 0 → has_bit set bit ≡ false
has_bit-empty set bit empty = ap (λ m. has_bit m bit) empty ∙ has_bit-none bit

-- a set that has something is not empty
pub not-empty : (set bit : ℕ) → has_bit set bit ≡ true → 0 < set
not-empty set bit has = grind (arith, both_ways, has_bit-empty)

-- a set of numbers below `n` has none from `n` on
pub has_bit-above : (set n bit : ℕ) → set < 2 ^ n → n ≤ bit → has_bit set bit ≡ false
has_bit-above set n bit below above = rw (bit_at_above set n bit below above) refl

-- One more and one less

-- a number is put in: `set | 1 << k`
pub has_bit-with : (set k bit : ℕ) → k < 128 → has_bit (bit_or set (1 * 2 ^ k % 2 ^ 128)) bit ≡ (nat_eq bit k || has_bit set bit)
has_bit-with set k bit within =
    ⊎_elim
    (λ (same : bit ≡ k). rw same (let on = bit_at_set_same w128 set k within in grind (arith, nat_tests)))
    (λ (other : bit ≢ k). let kept = bit_at_set_other w128 set k within bit other in grind (arith, nat_tests))
    (cases_eq bit k)

-- a number below `n` put into a set of such
pub with-below : (n set k : ℕ) → n ≤ 128 → set < 2 ^ n → k < n → bit_or set (1 * 2 ^ k % 2 ^ 128) < 2 ^ n
with-below n set k room below within = rw (one_shl k 128 (omega arith)) (or_lt n set (2 ^ k) below (pow_below k n within))

-- a number is taken out: `set & !(1 << k)`
pub has_bit-without : (set k bit : ℕ) → k < 128 → set < 2 ^ 128 → has_bit (bit_and set (bit_not w128 (1 * 2 ^ k % 2 ^ 128))) bit ≡ (not (nat_eq bit k) && has_bit set bit)
has_bit-without set k bit within below =
    ⊎_elim
    (λ (same : bit ≡ k). rw same (let off = bit_at_clear_same w128 set k within in grind (arith, nat_tests)))
    (λ (other : bit ≢ k).
    ⊎_elim
    (λ (low : bit < 128). let kept = bit_at_clear_other w128 set k within bit low other in grind (arith, nat_tests))
    (λ (high : 128 ≤ bit).
    let fewer = and_le_l set (bit_not w128 (1 * 2 ^ k % 2 ^ 128)) in
    let kept = bit_at_above (bit_and set (bit_not w128 (1 * 2 ^ k % 2 ^ 128))) 128 bit (omega arith) high in
    let was = bit_at_above set 128 bit below high in
    grind (arith, nat_tests))
    (cases_lt bit 128))
    (cases_eq bit k)

-- Two sets

turned : (b : ℕ) → b < 2 → nat_eq (1 - b) 1 ≡ not (nat_eq b 1)
turned b small = grind (arith, nat_tests)

pub has_bit-and : (a b bit : ℕ) → has_bit (bit_and a b) bit ≡ (has_bit a bit && has_bit b bit)
has_bit-and a b bit = grind (arith, bit_at_and, bit_at-lt)

pub has_bit-or : (a b bit : ℕ) → has_bit (bit_or a b) bit ≡ (has_bit a bit || has_bit b bit)
has_bit-or a b bit = grind (arith, bit_at_or, bit_at-lt)

-- what stands in one set and not in the other
pub has_bit-and-not : (a b bit : ℕ) → a < 2 ^ 128 → b < 2 ^ 128
    → has_bit (bit_and a (bit_not w128 b)) bit ≡ (has_bit a bit && not (has_bit b bit))
has_bit-and-not a b bit below small =
    has_bit-and a (bit_not w128 b) bit
    ∙ ⊎_elim
    (λ (low : bit < 128).
    ap (λ has. has_bit a bit && has)
    (ap (λ n. nat_eq n 1) (bit_at_not w128 b bit small low) ∙ turned (bit_at b bit) (bit_at-lt b bit)))
    (λ (high : 128 ≤ bit).
    let none : has_bit a bit ≡ false = has_bit-above a 128 bit below high in
    rw none refl)
    (cases_lt bit 128)

-- Two words

-- what stands in the lower word of two
pub has_bit-low : (high low bit : ℕ) → bit < 64 → has_bit (high * 2 ^ 64 + low) bit ≡ has_bit low bit
has_bit-low high low bit below = ap (λ n. nat_eq n 1) (bit_at_cat_low high 64 low bit below)

-- what stands in the higher word
pub has_bit-high : (high low bit : ℕ) → low < 2 ^ 64 → 64 ≤ bit → has_bit (high * 2 ^ 64 + low) bit ≡ has_bit high (bit - 64)
has_bit-high high low bit word above = ap (λ n. nat_eq n 1) (bit_at_cat_high high 64 low bit word above)

-- the test of a bit of a word: `(word >> bit) & 1 == 1`
pub test-bit : (word bit : ℕ) → nat_eq (bit_and (word / 2 ^ bit) 1) 1 ≡ has_bit word bit
test-bit word bit = ap (λ n. nat_eq n 1) (shr_and_one word bit)

-- the set of one number of the higher word, made in that word
pub one-high : (bit : ℕ) → 64 ≤ bit → bit < 128 → (1 * 2 ^ (bit - 64) % 2 ^ 64) * 2 ^ 64 % 2 ^ 128 ≡ 1 * 2 ^ bit % 2 ^ 128
one-high bit high within = grind (arith, pow-add, one_shl)
