use Rattle.std.proofs.Common.{arith}
use Rattle.bit_sets.proofs.Bits.{has_bit-and-not}
use Rattle.bit_sets.proofs.slots.difference.Goals as goal

pub returns : goal.returns
returns c = grind (arith, has_bit-and-not)
