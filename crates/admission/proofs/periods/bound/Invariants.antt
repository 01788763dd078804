use Rattle.std.proofs.Common.{◌≡◌, map, max, take}
use Rattle.std.specs.List.{fold}
use Rattle.planner_policies.specs.Loop.{settled_at}
use Rattle.admission.proofs.periods.bound.Given as goal

abbrev pub invariant-loop-p : goal.invariant-loop-p
invariant-loop-p l = l.bound ≡ fold max l.from (map settled_at (take l.p-index l.placed))
