use Rattle.std.proofs.Common.{arith}
use Rattle.bit_sets.proofs.Bits.{has_bit-without}
use Rattle.bit_sets.proofs.slots.Mask.without.Goals as goal

pub returns : goal.returns
returns c = record { slots = λ s. rw (c.from_bits.ensures.number, c.bits.ensures.number, c.one_slot.ensures.number) (has_bit-without c.args.self c.args.slot s (omega arith) (omega arith)) }
