use Rattle.std.proofs.Common.{arith}
use Rattle.std.proofs.lemmas.Bool.{lt-leb}
use Rattle.node_model.proofs.InCycle.{in_cycle-before, in_cycle-begun}
use Rattle.node_model.proofs.cycle.is_in.Goals as goal

pub returns-then-start-at : goal.returns-then-start-at
returns-then-start-at c = record { test = in_cycle-begun c.args.at c.args.cycle c.args.length c.requires.some c.if-start-at.true }

pub returns-else-start-at : goal.returns-else-start-at
returns-else-start-at c = grind (arith, lt-leb, in_cycle-before)
