-- Sets of slots as numbers: their symmetric difference, and their least slot.
use Rattle.std.proofs.Common.{◌≡◌, ℕ, Bool, Option, MatchOption, bit_xor, sym, arith}
use Rattle.std.proofs.lemmas.Bool.{both_ways}
use Rattle.std.proofs.lemmas.Nat.Bits.{bit_at-lt, bit_at_xor}
use Rattle.bit_sets.specs.Sets.{has_bit, most_slots}
use Rattle.bit_sets.specs.Least.{least_where}
use Rattle.bit_sets.proofs.Shared.{IsLeastBelow, least_where-of}
use Rattle.plan_check.specs.PlanKept.{NoSlot, differ}
use Rattle.plan_check.specs.Breaches.{IsLeastSlot}

pub has_bit-symmetric : (a b s : ℕ) → has_bit (bit_xor a b) s ≡ differ (has_bit a s) (has_bit b s)
has_bit-symmetric a b s = grind (arith, bit_at_xor, bit_at-lt)

-- what `least_where` finds, in the words of a breach
in-words : (test : ℕ → Bool) (found : Option ℕ) → IsLeastBelow most_slots test found → MatchOption found (NoSlot test) (λ slot. IsLeastSlot test slot)
in-words test found none = grind arith

pub least-found : (test : ℕ → Bool) (found : Option ℕ) → found ≡ least_where most_slots test
    → MatchOption found (NoSlot test) (λ slot. IsLeastSlot test slot)
least-found test found is = in-words test found (least_where-of most_slots test found (sym is))

-- where no slot passes there is no least one
pub no-least : (test : ℕ → Bool) (slot : ℕ) → NoSlot test → IsLeastSlot test slot → ⊥
no-least test slot none least = both_ways (test slot) (none slot least.known) least.passes
