-- One less clears the lowest bit, and sets those below it.
use Rattle.std.proofs.Common.{bit_and, arith}
use Rattle.bit_sets.proofs.LeastBit.{has_bit-less, less-low, none-least, some-least}
use Rattle.bit_sets.proofs.slots.without_least.Goals as goal

pub returns : goal.returns
returns c = grind (arith, some-least, bit_and, has_bit-less, none-least)

pub returns-then-low-ne0 : goal.returns-then-low-ne0
returns-then-low-ne0 c = grind (arith, bit_and, less-low, has_bit-less, none-least)
