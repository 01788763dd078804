use Rattle.std.proofs.Common.{arith, ◌∙◌}
use Rattle.bit_sets.proofs.LeastWhere.{least_where-low, least_where-word}
use Rattle.bit_sets.proofs.slots.least_slot.Goals as goal

pub returns : goal.returns
returns c = record { least = c.then_some.ensures ∙ least_where-word 96 c.args.among c.bits-bits.result c.bits-bits.ensures.number (omega arith) (omega arith) (omega arith) }

pub returns-then-low-ne0 : goal.returns-then-low-ne0
returns-then-low-ne0 c = grind (arith, least_where-low)
