use Rattle.std.proofs.Common.{◌-◌}
use Rattle.plan_check.proofs.Marks.{IsMarking}
use Rattle.plan_check.proofs.blocks.mark.Given as goal

abbrev pub decreases-loop-at : goal.decreases-loop-at
decreases-loop-at l = l.end - l.at

abbrev pub invariant-loop-at : goal.invariant-loop-at
invariant-loop-at l = IsMarking l.first l.step l.end l.one l.fn.sets l.sets l.at
