use Rattle.std.proofs.Common.{arith}
use Rattle.bit_sets.specs.Sets.{most_slots}
use Rattle.bit_sets.proofs.Bits.{with-below, has_bit-with}
use Rattle.bit_sets.proofs.slots.Mask.with.Goals as goal

pub from_bits-requires : goal.from_bits-requires
from_bits-requires c = rw c.one_slot.ensures.number (with-below most_slots _ _ (omega arith) c.bits.ensures.below c.requires)

pub returns : goal.returns
returns c = record { slots = λ s. rw (c.from_bits.ensures.number, c.bits.ensures.number, c.one_slot.ensures.number) (has_bit-with c.args.self c.args.slot s (omega arith)) }
