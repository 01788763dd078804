-- The CRC sequence as a sum over bytes: each entry of the table, and what a sum of entries leaves.
use Rattle.std.proofs.Common.{◌≡◌, ℕ, zero, suc, ◌+◌, ◌-◌, ◌*◌, ◌/◌, ◌%◌, ◌^◌, ◌<◌, ◌≤◌, Bool, true, cond, ltb, List, [], ◌∷◌, ◌++◌, length, take, get_or, bit_xor, append_assoc, refl, sym, ap, ◌∙◌, arith}
use Rattle.std.proofs.lemmas.Grind.{common_steps}
use Rattle.std.specs.List.{flat_map}
use Rattle.std.proofs.Math.Nat.{mul_comm, mul_assoc, pow-suc, mul-lt-mul_of_pos_right}
use Rattle.std.proofs.lemmas.List.{append-nil, take_more, take_all}
use Rattle.std.proofs.lemmas.List.Sums.{fold-append}
use Rattle.std.proofs.lemmas.Nat.{pow-add, pow_pos}
use lib.Bits.{xor_zero_l, xor_shifted}
use Rattle.stuff_bound.specs.Fields.{bits}
use Rattle.stuff_bound.proofs.Shared.{length-bits, are_entries, entry-is}
use Rattle.can_frame.specs.declared.shares.TheConstants.{SHARES}
use Rattle.can_frame.specs.Number.{number}
use Rattle.can_frame.specs.Crc.{generator, product, IsRemainder, IsSequence}
use Rattle.can_frame.specs.Wire.{header}
use Rattle.can_frame.proofs.Fields.{bit_number, number-bits}
use Rattle.can_frame.proofs.Plain.{header-bits, data-more}
use Rattle.can_frame.proofs.Remainder.{power_step, IsRemainder-xor, number-from}

-- the remainder of a polynomial times x, from that of the polynomial
twice : ℕ → ℕ
twice r = cond (ltb (2 * r) (2 ^ 15)) (2 * r) (bit_xor (2 * r) generator)

-- and times x^n
doubled : ℕ → ℕ → ℕ
doubled zero r = r
doubled (suc n) r = twice (doubled n r)

-- what the table says at a place
share_at : ℕ → ℕ
share_at place = doubled (15 + 8 * (place / 256)) (place % 256)

all_shares : are_entries share_at 0 SHARES ≡ true
unfolding share_at doubled twice
all_shares = refl

-- a small polynomial leaves itself
IsRemainder-small : (r : ℕ) → r < 2 ^ 15 → IsRemainder r r
unfolding product
IsRemainder-small r small = record { quotient = []; division = sym (xor_zero_l r); below = small }

IsRemainder-doubled : (n d r : ℕ) → IsRemainder d r → IsRemainder (d * 2 ^ n) (doubled n r)
unfolding doubled twice
IsRemainder-doubled zero d r h = let same : d * 2 ^ 0 ≡ d = omega arith in rw same h
IsRemainder-doubled (suc n) d r h =
    let more : d * 2 ^ suc n ≡ 2 * (d * 2 ^ n) = ap (λ p. d * p) (pow-suc 2 n) ∙ sym (mul_assoc d (2 ^ n) 2) ∙ mul_comm (d * 2 ^ n) 2 in
    rw more (power_step (d * 2 ^ n) (doubled n r) _ (IsRemainder-doubled n d r h) refl)

-- each entry is what its byte leaves
pub share_is : (behind byte : ℕ) → behind < 11 → byte < 256 → IsRemainder (byte * 2 ^ (15 + 8 * behind)) (get_or SHARES (256 * behind + byte) 0)
unfolding share_at
share_is behind byte few small =
    let row : (256 * behind + byte) / 256 ≡ behind = omega arith in
    let column : (256 * behind + byte) % 256 ≡ byte = omega arith in
    let entry = entry-is share_at (256 * behind + byte) SHARES all_shares (omega arith) in
    rw (entry, row, column) (IsRemainder-doubled (15 + 8 * behind) byte byte (IsRemainder-small byte (omega arith)))

-- a byte is below what stands before it
below_power : (byte power : ℕ) → byte < 256 → 0 < power → byte * power < power * 256
below_power byte power small some = grind (arith, mul-lt-mul_of_pos_right, mul_comm)

parts : (value byte power higher : ℕ) → higher ≡ power * 256 → (0x100 * value + byte) * power ≡ value * higher + byte * power
parts value byte power higher is = grind (arith, mul_assoc)

-- one byte more behind a number: the sum with its share
pub more-share : (value byte behind sum share : ℕ) → byte < 256 → IsRemainder (value * 2 ^ (15 + 8 * (behind + 1))) sum → IsRemainder (byte * 2 ^ (15 + 8 * behind)) share
    → IsRemainder ((0x100 * value + byte) * 2 ^ (15 + 8 * behind)) (bit_xor sum share)
more-share value byte behind sum share small h k =
    let m : ℕ = 15 + 8 * behind in
    let width : 15 + 8 * (behind + 1) ≡ m + 8 = omega arith in
    let power_is : 2 ^ (15 + 8 * (behind + 1)) ≡ 2 ^ m * 2 ^ 8 = ap (λ n. 2 ^ n) width ∙ pow-add 2 m 8 in
    let below : byte * 2 ^ m < 2 ^ (15 + 8 * (behind + 1)) = rw power_is (below_power byte (2 ^ m) small (pow_pos m)) in
    let apart : bit_xor (value * 2 ^ (15 + 8 * (behind + 1))) (byte * 2 ^ m) ≡ value * 2 ^ (15 + 8 * (behind + 1)) + byte * 2 ^ m = xor_shifted value (15 + 8 * (behind + 1)) (byte * 2 ^ m) below in
    let is : (0x100 * value + byte) * 2 ^ m ≡ bit_xor (value * 2 ^ (15 + 8 * (behind + 1))) (byte * 2 ^ m) = parts value byte (2 ^ m) (2 ^ (15 + 8 * (behind + 1))) power_is ∙ sym apart in
    rw is (IsRemainder-xor _ _ sum share h k)

-- the bits before the data and these data bytes, as a number
abbrev pub so_far : ℕ → ℕ → List ℕ → ℕ
so_far id n bytes = number (header id n ++ flat_map (bits 8) bytes)

pub so_far-none : (id n : ℕ) → id < 2 ^ 11 → n < 2 ^ 4 → so_far id n [] ≡ 128 * id + n
so_far-none id n small few = grind (arith, append-nil, header-bits, number-bits)

number-behind : (xs : List Bool) (byte : ℕ) → byte < 256 → number (xs ++ bits 8 byte) ≡ 0x100 * number xs + byte
number-behind xs byte small =
    let all : number (xs ++ bits 8 byte) ≡ number xs * 2 ^ length (bits 8 byte) + number (bits 8 byte) = fold-append (λ value bit. 2 * value + bit_number bit) 0 xs (bits 8 byte) ∙ number-from (number xs) (bits 8 byte) in
    grind (arith, length-bits, number-bits)

so_far-more : (id n byte : ℕ) (bytes : List ℕ) → byte < 256 → so_far id n (bytes ++ byte ∷ []) ≡ 0x100 * so_far id n bytes + byte
so_far-more id n byte bytes small = grind (arith, data-more, append_assoc, number-behind)

-- one data byte more
pub next-share : (id n : ℕ) (bytes : List ℕ) (place byte behind sum share : ℕ) → place < length bytes → byte ≡ get_or bytes place 0 → byte < 256 → 0 < behind
    → IsRemainder (so_far id n (take place bytes) * 2 ^ (15 + 8 * behind)) sum → IsRemainder (byte * 2 ^ (15 + 8 * (behind - 1))) share
    → IsRemainder (so_far id n (take (place + 1) bytes) * 2 ^ (15 + 8 * (behind - 1))) (bit_xor sum share)
next-share id n bytes place byte behind sum share inside byte_is small some h k = grind (arith, common_steps, take_more, so_far-more, more-share)

-- and all of them
pub whole-sum : (id n : ℕ) (bytes : List ℕ) (place behind sum : ℕ) → length bytes ≤ place → behind ≡ 0 → IsRemainder (so_far id n (take place bytes) * 2 ^ (15 + 8 * behind)) sum
    → IsSequence (header id n ++ flat_map (bits 8) bytes) sum
whole-sum id n bytes place behind sum end none h = grind (arith, take_all)
