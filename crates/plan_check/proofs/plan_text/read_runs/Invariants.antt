use Rattle.plan_check.proofs.RunLoop.{IsReading}
use Rattle.plan_check.proofs.plan_text.read_runs.Given as goal

abbrev pub decreases-loop-left : goal.decreases-loop-left
decreases-loop-left l = l.left

abbrev pub invariant-loop-left : goal.invariant-loop-left
invariant-loop-left l = IsReading l.version l.fn.text l.rest l.masks.items l.last l.fn.count l.left l.number
