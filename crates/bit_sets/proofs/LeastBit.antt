-- The least slot of a set, and the set without it.
use Rattle.std.proofs.Common.{◌≡◌, ℕ, ◌+◌, ◌-◌, ◌*◌, ◌/◌, ◌%◌, ◌^◌, ◌<◌, ◌&&◌, not, false, nat_eq, None, Some, bit_and, sym, ap, ◌∙◌, arith}
use Rattle.std.specs.Int.Bits.{and_self}
use Rattle.std.proofs.lemmas.Nat.{and_block, shr_split}
use Rattle.bit_sets.specs.Least.{least_where}
use Rattle.bit_sets.specs.Sets.{has_bit, most_slots}
use Rattle.bit_sets.proofs.Bits.{not-empty, turned-eq}
use Rattle.bit_sets.proofs.Least.{IsLeastBelow, least_where-of}
use Rattle.bit_sets.proofs.Lowest.{has_bit-without_lowest}
use Rattle.bit_sets.proofs.SetOf.{empty-set}

-- the least slot of a set
pub least-of : (set slot : ℕ) → least_where most_slots (has_bit set) ≡ Some slot → IsLeastBelow most_slots (has_bit set) (Some slot)
least-of set slot found = least_where-of most_slots (has_bit set) (Some slot) found

-- a set that has none
pub none-of : (set : ℕ) → least_where most_slots (has_bit set) ≡ None → (slot : ℕ) → slot < most_slots → has_bit set slot ≡ false
none-of set none = least_where-of most_slots (has_bit set) None none

pub has_bit-less : (result set least s : ℕ) → result ≡ bit_and set (set - 1) → least_where most_slots (has_bit set) ≡ Some least
    → has_bit result s ≡ (not (nat_eq s least) && has_bit set s)
has_bit-less result set least s is found = grind (arith, least-of, has_bit-without_lowest, turned-eq)

-- one less leaves the words above the lowest one that is not 0 as they are
pub less-low : (n low : ℕ) → low ≡ n % 2 ^ 64 → 0 < low → n / 2 ^ 64 * 2 ^ 64 + bit_and low (low - 1) ≡ bit_and n (n - 1)
less-low n low is some =
    let high = n / 2 ^ 64 in
    let whole : n ≡ high * 2 ^ 64 + low = sym (shr_split n 64) ∙ ap (λ m. high * 2 ^ 64 + m) (sym is) in
    let block : bit_and (high * 2 ^ 64 + low) (high * 2 ^ 64 + (low - 1)) ≡ bit_and high high * 2 ^ 64 + bit_and low (low - 1)
    = and_block 64 high high low (low - 1) (omega (arith, is)) (omega (arith, is)) in
    let same : bit_and high high ≡ high = and_self high in
    grind (arith, bit_and)

-- a set with a slot is no empty one
pub some-least : (set least : ℕ) → least_where most_slots (has_bit set) ≡ Some least → 0 < set
some-least set least found = not-empty set least (least-of set least found).1

-- a set with no slot is the empty one
pub none-least : (set : ℕ) → set < 2 ^ most_slots → least_where most_slots (has_bit set) ≡ None → set ≡ 0
none-least set below none = empty-set most_slots set below (none-of set none)
