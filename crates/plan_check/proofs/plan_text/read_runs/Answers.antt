use Rattle.std.proofs.Common.{arith}
use Rattle.plan_check.proofs.RunLoop.{reading-count, reading-next}
use Rattle.plan_check.proofs.plan_text.read_runs.Goals as goal

pub loop-left-preserved : goal.loop-left-preserved
loop-left-preserved c = grind (arith, reading-next)

pub returns-clause-count : goal.returns-clause-count
returns-clause-count c =
    reading-count c.args.version c.args.text.now c.loop-left.rest.now c.loop-left.masks.items c.loop-left.last c.args.count c.loop-left.left c.loop-left.number
    c.loop-left.invariant (omega arith)
