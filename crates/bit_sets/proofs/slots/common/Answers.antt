use Rattle.std.proofs.Common.{◌&&◌, ap, ◌∙◌}
use Rattle.std.specs.Int.Bits.{and_lt}
use Rattle.bit_sets.specs.Sets.{has_bit, most_slots}
use Rattle.bit_sets.proofs.Bits.{has_bit-and}
use Rattle.bit_sets.proofs.slots.common.Goals as goal

pub from_bits-requires : goal.from_bits-requires
from_bits-requires c = and_lt most_slots c.bits.result c.bits-2.result c.bits.ensures.below c.bits-2.ensures.below

pub returns : goal.returns
returns c = record {
  slots = λ slot.
      ap (λ set. has_bit set slot) c.from_bits.ensures.number
      ∙ has_bit-and c.bits.result c.bits-2.result slot
      ∙ ap (λ set. has_bit set slot && has_bit c.bits-2.result slot) c.bits.ensures.number
      ∙ ap (λ set. has_bit c.args.one slot && has_bit set slot) c.bits-2.ensures.number;
}
