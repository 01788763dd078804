use Rattle.std.proofs.Common.{take}
use Rattle.planner_policies.proofs.EachLoop.{HasGone}
use Rattle.planner_policies.proofs.planning.each_of.Given as goal

abbrev pub invariant-loop-due : goal.invariant-loop-due
invariant-loop-due l = HasGone l.w l.cycle (take l.due-index l.line) l.width l.mask l.left l.least
