use Rattle.std.proofs.Common.{arith}
use Rattle.plan_check.proofs.Marks.{offset-rest, offset-whole}
use Rattle.plan_check.proofs.blocks.offset.Goals as goal

pub returns-then-after-eq0 : goal.returns-then-after-eq0
returns-then-after-eq0 c = record { meets = λ i. offset-whole c.args.first c.args.step c.args.from i (omega arith) (omega arith) }

pub returns-else-after-eq0 : goal.returns-else-after-eq0
returns-else-after-eq0 c = grind (arith, offset-rest)
