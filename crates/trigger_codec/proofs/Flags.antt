-- The flag of a slot in the bytes of a trigger frame, and the two parts of a set of slots: what the first trigger frame
-- flags and what the second one flags.
use Rattle.std.proofs.Common.{◌≡◌, ℕ, ◌+◌, ◌-◌, ◌*◌, ◌/◌, ◌%◌, ◌^◌, ◌<◌, ◌≤◌, slice_index, nat_eq, nat_le, nat_lt, ◌&&◌, ◌||◌, sym, ap, ◌∙◌, arith, ⊎_elim}
use Rattle.std.specs.Int.{bit_at, byte_at}
use Rattle.std.proofs.lemmas.Bool.{cases_lt}
use Rattle.std.proofs.lemmas.Bool.Decides.{nat_tests}
use Rattle.std.proofs.lemmas.Nat.Bits.{bit_at_cat_low, bit_at_cat_high}
use Rattle.std.proofs.lemmas.Nat.{pow_pos}
use Rattle.bit_sets.specs.Sets.{has_bit}
use Rattle.bit_sets.proofs.Shared.{has_bit-set_of, set_of-has_bit, set_of-from_slots, set_of-same, bit_at-low, bit_at-shifted}
use Rattle.trigger_codec.specs.Bytes.{flags_of_both, low_slots, high_slots, trigger_bytes, second_bytes, flags_in, second_flags_in}

-- the flags of the slots from 8 * i on
flag_byte : (cycle l mask i : ℕ) → i < 5 → slice_index (trigger_bytes cycle l mask) (3 + i) ≡ mask / 2 ^ (8 * i) % 2 ^ 8
flag_byte cycle l mask i below = grind arith

pub flag-slot : (cycle l mask slot : ℕ) → slot < 40 → has_bit (slice_index (trigger_bytes cycle l mask) (3 + slot / 8)) (slot % 8) ≡ has_bit mask slot
flag-slot cycle l mask slot below =
    let byte = flag_byte cycle l mask (slot / 8) (omega arith) in
    let bit : bit_at (mask / 2 ^ (8 * (slot / 8)) % 2 ^ 8) (slot % 8) ≡ bit_at mask slot =
    bit_at-low (mask / 2 ^ (8 * (slot / 8))) 8 (slot % 8) (omega arith)
    ∙ bit_at-shifted mask (8 * (slot / 8)) (slot % 8)
    ∙ ap (bit_at mask) (omega arith) in
    ap (λ b. has_bit b (slot % 8)) byte ∙ ap (λ b. nat_eq b 1) bit

-- the flags of the slots from 40 + 8 * i on
second_flag_byte : (cycle mask i : ℕ) → i < 7 → slice_index (second_bytes cycle mask) (1 + i) ≡ mask / 2 ^ (40 + 8 * i) % 2 ^ 8
second_flag_byte cycle mask i below = grind arith

pub second-flag-slot : (cycle mask slot : ℕ) → 40 ≤ slot → slot < 96 → has_bit (slice_index (second_bytes cycle mask) (1 + (slot - 40) / 8)) ((slot - 40) % 8) ≡ has_bit mask slot
second-flag-slot cycle mask slot above below =
    let place = slot - 40 in
    let byte = second_flag_byte cycle mask (place / 8) (omega arith) in
    let bit : bit_at (mask / 2 ^ (40 + 8 * (place / 8)) % 2 ^ 8) (place % 8) ≡ bit_at mask slot =
    bit_at-low (mask / 2 ^ (40 + 8 * (place / 8))) 8 (place % 8) (omega arith)
    ∙ bit_at-shifted mask (40 + 8 * (place / 8)) (place % 8)
    ∙ ap (bit_at mask) (omega arith) in
    ap (λ b. has_bit b (place % 8)) byte ∙ ap (λ b. nat_eq b 1) bit

-- the slots below 40 are the number's lowest 40 bits
pub low_slots-is : (mask : ℕ) → mask % 2 ^ 40 ≡ low_slots mask
low_slots-is mask =
    set_of-from_slots 40 (mask % 2 ^ 40) (has_bit mask) (omega arith)
    (λ slot below. ap (λ b. nat_eq b 1) (bit_at-low mask 40 slot below))

-- a number without its lowest `k` bits contains the slots from `k` on
has_bit-from : (k mask slot : ℕ) → has_bit (mask / 2 ^ k * 2 ^ k) slot ≡ (nat_le k slot && has_bit mask slot)
has_bit-from k mask slot =
    ⊎_elim
    (λ (low : slot < k).
    let bit = bit_at_cat_low (mask / 2 ^ k) k 0 slot low in
    grind (arith, nat_tests))
    (λ (high : k ≤ slot).
    let back : k + (slot - k) ≡ slot = omega arith in
    let bit = bit_at_cat_high (mask / 2 ^ k) k 0 slot (pow_pos k) high ∙ bit_at-shifted mask k (slot - k) ∙ ap (bit_at mask) back in
    grind (arith, nat_tests))
    (cases_lt slot k)

-- the slots from 40 on are the number without its lowest 40 bits
pub high_slots-is : (mask : ℕ) → mask < 2 ^ 96 → mask / 2 ^ 40 * 2 ^ 40 ≡ high_slots mask
high_slots-is mask below =
    set_of-from_slots 96 (mask / 2 ^ 40 * 2 ^ 40) (λ slot. nat_le 40 slot && has_bit mask slot) (omega arith)
    (λ slot within. has_bit-from 40 mask slot)

-- the five bytes of the first frame are the lowest 40 bits
low-bytes : (mask : ℕ) → byte_at 0 mask + byte_at 1 mask * 256 + byte_at 2 mask * 256 ^ 2 + byte_at 3 mask * 256 ^ 3 + byte_at 4 mask * 256 ^ 4 ≡ mask % 2 ^ 40
low-bytes mask = omega arith

-- what the five bytes of a first frame flag
pub flags_in-first : (cycle l mask : ℕ) → flags_in (trigger_bytes cycle l mask) ≡ low_slots mask
flags_in-first cycle l mask = low-bytes mask ∙ low_slots-is mask

-- the seven bytes behind the lowest five
seven-behind : (mask : ℕ) → mask < 2 ^ 96 → byte_at 5 mask + byte_at 6 mask * 256 + byte_at 7 mask * 256 ^ 2 + byte_at 8 mask * 256 ^ 3 + byte_at 9 mask * 256 ^ 4 + byte_at 10 mask * 256 ^ 5 + byte_at 11 mask * 256 ^ 6 ≡ mask / 2 ^ 40
seven-behind mask below = grind arith

-- what the seven bytes of a second frame flag
pub second_flags_in-second : (cycle mask : ℕ) → mask < 2 ^ 96 → second_flags_in (second_bytes cycle mask) ≡ high_slots mask
second_flags_in-second cycle mask below = grind (arith, seven-behind, high_slots-is)

-- both parts together are the whole set
pub both-parts : (mask : ℕ) → mask < 2 ^ 96 → flags_of_both (low_slots mask) (high_slots mask) ≡ mask
both-parts mask below =
    set_of-same 96 (λ slot. has_bit (low_slots mask) slot || has_bit (high_slots mask) slot) (has_bit mask)
    (λ slot within. grind (arith, has_bit-set_of, nat_lt))
    ∙ sym (set_of-has_bit 96 mask below)

-- the first part is all, where all slots are below 40
pub first-part : (mask : ℕ) → mask < 2 ^ 40 → low_slots mask ≡ mask
first-part mask below = sym (set_of-has_bit 40 mask below)
