-- Division by the generator: what it leaves, and that it leaves one thing.
use Rattle.std.proofs.Common.{◌≡◌, ℕ, zero, suc, ◌+◌, ◌-◌, ◌*◌, ◌/◌, ◌^◌, ◌<◌, ◌≤◌, ◌⊎◌, Bool, true, false, not, cond, ltb, List, [], ◌∷◌, length, fold, bit_xor, zero-add, refl, subst, sym, ap, ◌∙◌, inl, arith, lit<}
use Rattle.std.proofs.lemmas.Grind.{common_steps}
use Rattle.std.proofs.Math.Nat.{mul_comm, pow-suc}
use Rattle.std.proofs.lemmas.Bool.{ltb-true, ltb-false}
use Rattle.std.proofs.lemmas.Nat.{pow-add, xor_comm, xor_lt, xor_block}
use lib.Bits.{xor_assoc, xor_self, xor_zero_r, xor_shifted, xor_shr}
use Rattle.can_frame.specs.Number.{number}
use Rattle.can_frame.proofs.Fields.{bit_number}
use Rattle.can_frame.specs.Crc.{generator, product, IsRemainder, IsSequence, power, sequence_of}

-- the same term on both sides of a sum goes away
xor_twice : (a b c : ℕ) → bit_xor (bit_xor c a) (bit_xor b c) ≡ bit_xor a b
xor_twice a b c = grind (arith, common_steps, bit_xor, xor_comm)

-- a sum times x is the sum of the products with x
double-xor : (a b : ℕ) → 2 * bit_xor a b ≡ bit_xor (2 * a) (2 * b)
double-xor a b =
    let block : bit_xor (a * 2 + 0) (b * 2 + 0) ≡ bit_xor a b * 2 + bit_xor 0 0 = xor_block 1 a b 0 0 (lit< tt) (lit< tt) in
    grind (arith, bit_xor)

-- two numbers with the same highest bit, their sum without it
top-xor : (n : ℕ) → 2 ^ 15 ≤ n → n < 2 ^ 16 → bit_xor n generator < 2 ^ 15
top-xor n high low =
    let rest : n - 2 ^ 15 < 2 ^ 15 = omega arith in
    let block : bit_xor (1 * 2 ^ 15 + (n - 2 ^ 15)) generator ≡ bit_xor 1 1 * 2 ^ 15 + bit_xor (n - 2 ^ 15) 0x4599 = xor_block 15 1 1 (n - 2 ^ 15) 0x4599 rest (lit< tt) in
    let below : bit_xor (n - 2 ^ 15) 0x4599 < 2 ^ 15 = xor_lt 15 (n - 2 ^ 15) 0x4599 rest (lit< tt) in
    grind (arith, bit_xor)

-- a dividend times x leaves twice the remainder, where its degree is below 15
IsRemainder-low : (d r n : ℕ) → IsRemainder d r → n ≡ 2 * r → n < 2 ^ 15 → IsRemainder (2 * d) n
unfolding product
IsRemainder-low d r n h is low = record {
  quotient = false ∷ h.quotient;
  division = grind (arith, double-xor, bit_xor);
  below = low;
}

-- and otherwise that less the generator
IsRemainder-high : (d r n : ℕ) → IsRemainder d r → n ≡ 2 * r → 2 ^ 15 ≤ n → IsRemainder (2 * d) (bit_xor n generator)
unfolding product
IsRemainder-high d r n h is high = record {
  quotient = true ∷ h.quotient;
  division =
      ap (λ x. 2 * x) h.division ∙ double-xor (product h.quotient generator) r
      ∙ ap (bit_xor (2 * product h.quotient generator)) (sym is)
      ∙ sym (xor_twice (2 * product h.quotient generator) n generator);
  below = top-xor n high (let small : r < 2 ^ 15 = h.below in omega arith);
}

-- ---- the remainder is one

-- two bits of which one is recessive
differ : Bool → Bool → Bool
differ true c = not c
differ false c = c

-- coefficient by coefficient, from that of x^0 on
both : List Bool → List Bool → List Bool
both [] q = q
both (b ∷ p) [] = b ∷ p
both (b ∷ p) (c ∷ q) = differ b c ∷ both p q

-- a polynomial, or nothing
abbrev part : Bool → ℕ → ℕ
part c p = cond c p 0

part-differ : (b c : Bool) (p : ℕ) → part (differ b c) p ≡ bit_xor (part b p) (part c p)
unfolding differ
part-differ b c p = grind (arith, common_steps)

-- the sum of two sums, its inner terms exchanged
xor_exchange : (a b c d : ℕ) → bit_xor (bit_xor a b) (bit_xor c d) ≡ bit_xor (bit_xor a c) (bit_xor b d)
xor_exchange a b c d = grind (arith, common_steps, bit_xor, xor_comm)

-- the product with a sum of quotients is the sum of the products
product-both : (p q : List Bool) (g : ℕ) → product (both p q) g ≡ bit_xor (product p g) (product q g)
unfolding product both
product-both [] q g = refl
product-both (b ∷ p) [] g = sym (xor_zero_r _)
product-both (b ∷ p) (c ∷ q) g =
    ap (λ x. bit_xor x (2 * product (both p q) g)) (part-differ b c g)
    ∙ ap (λ x. bit_xor (bit_xor (part b g) (part c g)) (2 * x)) (product-both p q g)
    ∙ ap (bit_xor (bit_xor (part b g) (part c g))) (double-xor (product p g) (product q g))
    ∙ xor_exchange (part b g) (part c g) (2 * product p g) (2 * product q g)

-- a sum of dividends leaves the sum of the remainders
pub IsRemainder-xor : (d e r s : ℕ) → IsRemainder d r → IsRemainder e s → IsRemainder (bit_xor d e) (bit_xor r s)
IsRemainder-xor d e r s h k = record {
  quotient = both h.quotient k.quotient;
  division = grind (arith, bit_xor, xor_exchange, product-both);
  below = xor_lt 15 r s h.below k.below;
}

-- a sum that is nothing has equal terms
xor-zero : (a b : ℕ) → bit_xor a b ≡ 0 → a ≡ b
xor-zero a b is =
    sym (xor_zero_r a) ∙ ap (bit_xor a) (sym (xor_self b)) ∙ sym (xor_assoc a b b)
    ∙ ap (λ x. bit_xor x b) is

-- a term of less than 16 bits leaves what another has above them
xor-above : (a b : ℕ) → a < 2 ^ 16 → 2 ^ 16 ≤ b → 2 ^ 16 ≤ bit_xor a b
xor-above a b low high =
    let nothing : a / 2 ^ 16 ≡ 0 = omega arith in
    let is : bit_xor a b / 2 ^ 16 ≡ b / 2 ^ 16 = xor_shr a b 16 ∙ ap (λ x. bit_xor x (b / 2 ^ 16)) nothing in
    omega arith

-- one more coefficient keeps a product nothing or of such a degree
high_more : (c : Bool) (p : ℕ) → (p ≡ 0) ⊎ (2 ^ 15 ≤ p) → (bit_xor (part c generator) (2 * p) ≡ 0) ⊎ (2 ^ 15 ≤ bit_xor (part c generator) (2 * p))
high_more c p h0 = grind (arith, bit_xor, xor-above, lit<)

-- a product with the generator is nothing, or has a degree of at least 15
product-high : (q : List Bool) → (product q generator ≡ 0) ⊎ (2 ^ 15 ≤ product q generator)
unfolding product
product-high [] = inl refl
product-high (c ∷ q) = high_more c (product q generator) (product-high q)

-- *CRC sequence*: division leaves one remainder
pub IsRemainder-one : (d r s : ℕ) → IsRemainder d r → IsRemainder d s → r ≡ s
IsRemainder-one d r s h k =
    let both_sum : IsRemainder (bit_xor d d) (bit_xor r s) = IsRemainder-xor d d r s h k in
    let nothing : bit_xor (product both_sum.quotient generator) (bit_xor r s) ≡ 0 = sym both_sum.division ∙ xor_self d in
    grind (arith, bit_xor, xor-zero, product-high)

-- ---- and it is there

pub power_step : (d r : ℕ) (b : Bool) → IsRemainder d r → ltb (2 * r) (2 ^ 15) ≡ b → IsRemainder (2 * d) (cond b (2 * r) (bit_xor (2 * r) generator))
power_step d r b h is = grind (arith, IsRemainder-low, ltb-true, IsRemainder-high, ltb-false)

-- nothing leaves nothing
pub IsRemainder-zero : IsRemainder 0 0
unfolding product
IsRemainder-zero = record { quotient = []; division = refl; below = lit< tt }

-- x^k modulo the generator is what division leaves of x^k
pub IsRemainder-power : (k : ℕ) → IsRemainder (2 ^ k) (power k)
unfolding product power
IsRemainder-power zero = record { quotient = []; division = refl; below = lit< tt }
IsRemainder-power (suc k) =
    let twice : 2 ^ suc k ≡ 2 * 2 ^ k = pow-suc 2 k ∙ mul_comm (2 ^ k) 2 in
    rw twice (power_step (2 ^ k) (power k) _ (IsRemainder-power k) refl)

-- what stands before a field counts for the power that is behind it
pub number-from : (start : ℕ) (field : List Bool) → fold (λ value bit. 2 * value + bit_number bit) start field ≡ start * 2 ^ length field + number field
number-from start [] = omega arith
number-from start (bit ∷ field) =
    let all = number-from (2 * start + bit_number bit) field in
    let rest : number (bit ∷ field) ≡ bit_number bit * 2 ^ length field + number field =
    ap (λ from. fold (λ value bit. 2 * value + bit_number bit) from field) (zero-add (bit_number bit)) ∙ number-from (bit_number bit) field in
    rw (pow-suc 2 (length field)) (omega arith)

-- the number of a field by its most significant bit
number-cons : (bit : Bool) (field : List Bool) → number (bit ∷ field) ≡ bit_number bit * 2 ^ length field + number field
number-cons bit field =
    ap (λ from. fold (λ value bit. 2 * value + bit_number bit) from field) (zero-add (bit_number bit)) ∙ number-from (bit_number bit) field

below_twice : (bit : Bool) (n p : ℕ) → n < p → bit_number bit * p + n < p * 2
below_twice bit n p h = grind arith

-- a field of n bits is below 2^n
pub number-below : (field : List Bool) → number field < 2 ^ length field
number-below [] = lit< tt
number-below (bit ∷ field) =
    let twice : 2 ^ length (bit ∷ field) ≡ 2 ^ length field * 2 = pow-suc 2 (length field) in
    let is = number-cons bit field in
    let below = below_twice bit (number field) (2 ^ length field) (number-below field) in
    omega arith

-- the highest of the covered bits, times x^15
highest : (bit : Bool) (n k : ℕ) → n < 2 ^ k → (bit_number bit * 2 ^ k + n) * 2 ^ 15 ≡ bit_xor (part bit (2 ^ (15 + k))) (n * 2 ^ 15)
highest true n k below =
    let power_is : 2 ^ (15 + k) ≡ 2 ^ 15 * 2 ^ k = pow-add 2 15 k in
    let small : n * 2 ^ 15 < 2 ^ (15 + k) = omega arith in
    let apart : bit_xor (1 * 2 ^ (15 + k)) (n * 2 ^ 15) ≡ 1 * 2 ^ (15 + k) + n * 2 ^ 15 = xor_shifted 1 (15 + k) (n * 2 ^ 15) small in
    grind (arith, bit_xor)
highest false n k below = omega arith

IsRemainder-part : (bit : Bool) (k : ℕ) → IsRemainder (part bit (2 ^ k)) (part bit (power k))
IsRemainder-part bit k = grind (arith, IsRemainder-power, IsRemainder-zero)

-- the CRC sequence of `sequence_of` is the one that the definition gives
pub IsSequence-sequence_of : (covered : List Bool) → IsSequence covered (sequence_of covered)
unfolding sequence_of
IsSequence-sequence_of [] = IsRemainder-zero
IsSequence-sequence_of (bit ∷ covered) =
    let is : number (bit ∷ covered) * 2 ^ 15 ≡ bit_xor (part bit (2 ^ (15 + length covered))) (number covered * 2 ^ 15) =
    ap (λ n. n * 2 ^ 15) (number-cons bit covered) ∙ highest bit (number covered) (length covered) (number-below covered) in
    let P : ℕ → Type 0 = λ d. IsRemainder d (sequence_of (bit ∷ covered)) in
    subst P (sym is) (IsRemainder-xor _ _ _ _ (IsRemainder-part bit (15 + length covered)) (IsSequence-sequence_of covered))
