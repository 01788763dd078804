use Rattle.std.proofs.Common.{◌||◌, ap, ◌∙◌}
use Rattle.std.proofs.lemmas.Nat.{or_lt}
use Rattle.bit_sets.specs.Sets.{has_bit, set_of, most_slots}
use Rattle.bit_sets.proofs.Bits.{has_bit-or}
use Rattle.bit_sets.proofs.SetOf.{set_of-from_slots}
use Rattle.bit_sets.proofs.slots.union.Goals as goal

pub from_bits-requires : goal.from_bits-requires
from_bits-requires c = or_lt most_slots c.bits.result c.bits-2.result c.bits.ensures.below c.bits-2.ensures.below

pub returns : goal.returns
returns c =
    let one = c.bits.result in
    let other = c.bits-2.result in
    record {
      set =
          c.from_bits.ensures.number
          ∙ set_of-from_slots most_slots _ (λ slot. has_bit one slot || has_bit other slot)
          (or_lt most_slots one other c.bits.ensures.below c.bits-2.ensures.below) (λ slot _. has_bit-or one other slot)
          ∙ ap (λ set. set_of most_slots (λ slot. has_bit set slot || has_bit other slot)) c.bits.ensures.number
          ∙ ap (λ set. set_of most_slots (λ slot. has_bit c.args.one slot || has_bit set slot)) c.bits-2.ensures.number;
      slots = λ slot.
          ap (λ set. has_bit set slot) c.from_bits.ensures.number
          ∙ has_bit-or one other slot
          ∙ ap (λ set. has_bit set slot || has_bit other slot) c.bits.ensures.number
          ∙ ap (λ set. has_bit c.args.one slot || has_bit set slot) c.bits-2.ensures.number;
    }
