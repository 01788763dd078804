-- The least slot with a property, and the lowest bit of a set of slots.
use Rattle.std.proofs.Common.{◌≡◌, ℕ, zero, suc, ◌%◌, ◌^◌, ◌<◌, ◌≤◌, Bool, true, false, not, nat_eq, Some, None, refl, sym, ap, ◌∙◌, arith, ⊎_elim}
use Rattle.std.specs.Bool.{then_some}
use Rattle.std.specs.Int.{trailing_zeros, w64, w128}
use Rattle.std.proofs.lemmas.Bool.{both_ways, cases_lt}
use Rattle.std.proofs.lemmas.Bool.Decides.{nat_tests}
use Rattle.std.proofs.lemmas.Nat.Bits.{bit_at-trailing_zeros}
use Rattle.bit_sets.specs.Least.{least_where}
use Rattle.bit_sets.specs.Sets.{has_bit}
use Rattle.bit_sets.proofs.Bits.{bit_at-low, has_bit-above, has_bit-none}
use Rattle.bit_sets.proofs.Lowest.{lowest-128, lowest-64}

-- no slot below `n` has the property
pub least_where-none : (n : ℕ) (p : ℕ → Bool) → ((i : ℕ) → i < n → p i ≡ false) → least_where n p ≡ None
unfolding least_where
least_where-none zero p none = refl
least_where-none (suc n) p none =
    let before = least_where-none n p (λ i below. none i (omega arith)) in
    grind arith

-- the slot `k` has the property, and no slot below it
pub least_where-found : (n : ℕ) (p : ℕ → Bool) (k : ℕ) → k < n → p k ≡ true → ((i : ℕ) → i < k → p i ≡ false) → least_where n p ≡ Some k
unfolding least_where
least_where-found zero p k within has none = absurd (omega arith)
least_where-found (suc n) p k within has none =
    ⊎_elim
    (λ (before : k < n). rw (least_where-found n p k before has none) refl)
    (λ (last : n ≤ k). grind (arith, least_where-none))
    (cases_lt k n)

-- two properties that agree below `n`
pub least_where-same : (n : ℕ) (p q : ℕ → Bool) → ((s : ℕ) → s < n → p s ≡ q s) → least_where n p ≡ least_where n q
unfolding least_where
least_where-same zero p q same = refl
least_where-same (suc n) p q same =
    let before = least_where-same n p q (λ s below. same s (omega arith)) in
    grind arith

-- a set with no slot
least_where-nothing : (n : ℕ) → least_where n (has_bit 0) ≡ None
least_where-nothing n = least_where-none n (has_bit 0) (λ i below. has_bit-none i)

-- the least slot of a set is its lowest bit
least_where-lowest : (n set : ℕ) → n ≤ 128 → 0 < set → set < 2 ^ n → set < 2 ^ 128 → least_where n (has_bit set) ≡ Some (trailing_zeros w128 set)
least_where-lowest n set few some below small =
    let lowest = lowest-128 set some small in
    let within : trailing_zeros w128 set < n = grind (arith, both_ways, has_bit-above, cases_lt) in
    least_where-found n (has_bit set) (trailing_zeros w128 set) within lowest.has lowest.none

-- the lowest bit of the low word is that of the number, where the word has one
pub least_where-low : (n mask bits low : ℕ) → bits ≡ mask → low ≡ bits % 2 ^ 64 → 64 ≤ n → 0 < low
    → Some (trailing_zeros w64 low) ≡ least_where n (has_bit mask)
least_where-low n mask bits low is part many some =
    let below : low < 2 ^ 64 = omega (arith, part) in
    let lowest = lowest-64 low some below in
    let place = trailing_zeros w64 low in
    let within : place < 64 = (bit_at-trailing_zeros w64 low some below).0 in
    let same : (i : ℕ) → i < 64 → has_bit bits i ≡ has_bit low i
    = λ i near. ap (λ b. nat_eq b 1) (sym (bit_at-low bits 64 i near)) ∙ ap (λ m. has_bit m i) (sym part) in
    sym (least_where-found n (has_bit bits) place (omega (arith, within, many)) (same place within ∙ lowest.has)
    (λ i before. same i (omega (arith, before, within)) ∙ lowest.none i before))
    ∙ ap (λ set. least_where n (has_bit set)) is

pub least_where-word : (n mask bits : ℕ) → bits ≡ mask → n ≤ 128 → bits < 2 ^ n → bits < 2 ^ 128
    → then_some (not (nat_eq bits 0)) (trailing_zeros w128 bits) ≡ least_where n (has_bit mask)
least_where-word n mask bits is few below small = grind (arith, least_where-nothing, nat_tests, least_where-lowest)
