-- Sets that are made of a test: what such a set has, and that a set is what it has.
use Rattle.std.proofs.Common.{◌≡◌, ℕ, zero, suc, ◌+◌, ◌*◌, ◌^◌, ◌<◌, Bool, true, false, not, ◌&&◌, nat_eq, nat_lt, if◌then◌else◌, sym, ◌∙◌, ap, arith}
use Rattle.std.proofs.lemmas.Bool.{and_parts, cases_lt, lt-ltb}
use Rattle.std.proofs.lemmas.Bool.Decides.{nat_tests}
use Rattle.std.proofs.lemmas.Nat.{pow_pos}
use Rattle.std.proofs.lemmas.Nat.Bits.{bit_at-zero, bit_at_cat_low, bit_at_cat_high, same_from_bits_below}
use Rattle.bit_sets.specs.Sets.{has_bit, sum_where, set_of}
use Rattle.bit_sets.proofs.Bits.{bit_at-out, has_bit-above, has_bit-none}
use Rattle.bit_sets.proofs.Sums.{sum_where-less, sum_where-none, sum_where-same}

-- a set with one more at its end
has_bit-next : (b : Bool) (n rest s : ℕ) → rest < 2 ^ n → has_bit ((if b then 1 else 0) * 2 ^ n + rest) s ≡ (if nat_eq s n then b else has_bit rest s)
has_bit-next b n rest s below = grind (arith, bit_at_cat_low, nat_tests, bit_at_cat_high, has_bit-above, bit_at-zero, cases_lt)

set_of-next : (n : ℕ) (p : ℕ → Bool) → set_of (suc n) p ≡ (if p n then 1 else 0) * 2 ^ n + set_of n p
unfolding set_of sum_where
set_of-next n p = elim (p n) as (λ b. sum_where n p (λ bit. 2 ^ bit) + (if b then 2 ^ n else 0) ≡ (if b then 1 else 0) * 2 ^ n + sum_where n p (λ bit. 2 ^ bit)) [ true ↦ omega arith | false ↦ omega arith ]

-- a set of numbers below `n` is a number of `n` bits
pub set_of-below : (n : ℕ) (p : ℕ → Bool) → set_of n p < 2 ^ n
unfolding set_of sum_where
set_of-below zero p = omega arith
set_of-below (suc n) p =
    let low = set_of-below n p in
    elim (p n) as (λ b. sum_where n p (λ bit. 2 ^ bit) + (if b then 2 ^ n else 0) < 2 ^ suc n) [ true ↦ omega arith | false ↦ omega arith ]

passes_next : (n : ℕ) (p : ℕ → Bool) (s : ℕ) (low : Bool) → low ≡ (nat_lt s n && p s) → (if nat_eq s n then p n else low) ≡ (nat_lt s (suc n) && p s)
passes_next n p s low is = grind (arith, nat_tests)

-- a set made of a test has what is below `n` and passes it
pub has_bit-set_of : (n : ℕ) (p : ℕ → Bool) (s : ℕ) → has_bit (set_of n p) s ≡ (nat_lt s n && p s)
unfolding set_of sum_where
has_bit-set_of zero p s = let none = has_bit-none s in grind (arith, nat_tests)
has_bit-set_of (suc n) p s =
    let next = set_of-next n p in
    let bits = has_bit-next (p n) n (set_of n p) s (set_of-below n p) in
    let low = has_bit-set_of n p s in
    ap (λ set. has_bit set s) next ∙ bits ∙ passes_next n p s _ low

-- of what is below `n` it has what passes
pub set_of-has : (n : ℕ) (p : ℕ → Bool) (s : ℕ) → s < n → has_bit (set_of n p) s ≡ p s
set_of-has n p s below = has_bit-set_of n p s ∙ ap (λ b. b && p s) (lt-ltb s n below)

-- and what it has passes
pub set_of-passes : (n : ℕ) (p : ℕ → Bool) (s : ℕ) → has_bit (set_of n p) s ≡ true → p s ≡ true
set_of-passes n p s has = (and_parts (nat_lt s n) (p s) (sym (has_bit-set_of n p s) ∙ has)).1

-- a set of numbers below `n` is the set of what it has
pub set_of-has_bit : (n set : ℕ) → set < 2 ^ n → set ≡ set_of n (has_bit set)
set_of-has_bit n set below =
    same_from_bits_below n set (set_of n (has_bit set)) below (set_of-below n (has_bit set))
    (λ s low.
    let same = has_bit-set_of n (has_bit set) s in
    grind (arith, nat_tests))

-- two tests that agree below `n` give one set
pub set_of-same : (n : ℕ) (p q : ℕ → Bool) → ((s : ℕ) → s < n → p s ≡ q s) → set_of n p ≡ set_of n q
unfolding set_of
set_of-same n p q same = sum_where-same n p q (λ bit. 2 ^ bit) same

-- a set of numbers below `n` that has just what passes a test is the set made of it
pub set_of-from_slots : (n set : ℕ) (p : ℕ → Bool) → set < 2 ^ n → ((s : ℕ) → s < n → has_bit set s ≡ p s) → set ≡ set_of n p
set_of-from_slots n set p below same = set_of-has_bit n set below ∙ set_of-same n (has_bit set) p same

-- a set of which nothing passes the test is empty
pub set_of-none : (n : ℕ) (p : ℕ → Bool) → ((s : ℕ) → s < n → p s ≡ false) → set_of n p ≡ 0
unfolding set_of
set_of-none n p none = sum_where-none n p (λ bit. 2 ^ bit) none

-- a set below `n` that has nothing is empty
pub empty-set : (n set : ℕ) → set < 2 ^ n → ((s : ℕ) → s < n → has_bit set s ≡ false) → set ≡ 0
empty-set n set below none =
    same_from_bits_below n set 0 below (pow_pos n) (λ s low. bit_at-out set s (none s low) ∙ sym (bit_at-zero s))

-- a set without one of its numbers is less
pub without-less : (n set rest k : ℕ) → k < n → set < 2 ^ n → rest < 2 ^ n → has_bit set k ≡ true
    → ((s : ℕ) → has_bit rest s ≡ (not (nat_eq s k) && has_bit set s)) → rest < set
unfolding set_of
without-less n set rest k within low small has without =
    let whole = set_of-has_bit n set low in
    let part = set_of-has_bit n rest small in
    let less = sum_where-less n k (has_bit rest) (has_bit set) (λ bit. 2 ^ bit) within (let is = without k in grind (arith, nat_tests)) has
    (λ s _ in_rest. let is = without s in grind (arith, nat_tests)) in
    grind (arith, pow_pos)
