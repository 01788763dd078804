use Rattle.std.proofs.Common.{take}
use Rattle.planner_policies.specs.Due.{IsLeastMissed}
use Rattle.planner_policies.proofs.planning.missed.Given as goal

abbrev pub invariant-loop-due : goal.invariant-loop-due
invariant-loop-due l = IsLeastMissed l.cycle (take l.due-index l.line) l.least
