use Rattle.std.proofs.Common.{arith}
use Rattle.bit_sets.proofs.Bits.{has_bit-low, has_bit-high, test-bit}
use Rattle.bit_sets.proofs.slots.Mask.has.Goals as goal

pub returns-then-slot-lt-FIRST_HIGH : goal.returns-then-slot-lt-FIRST_HIGH
returns-then-slot-lt-FIRST_HIGH c = grind (arith, test-bit, has_bit-low)

pub returns-else-slot-lt-FIRST_HIGH : goal.returns-else-slot-lt-FIRST_HIGH
returns-else-slot-lt-FIRST_HIGH c = grind (arith, test-bit, has_bit-high)
