use Rattle.std.proofs.Common.{◌+◌}
use Rattle.planner_policies.specs.Plan.{planning_of}
use Rattle.admission.specs.Verdict.{IsPlannedUpTo}
use Rattle.admission.proofs.deciding.plan_empty.Given as goal

-- the cycles so far are planned
abbrev pub invariant-loop : goal.invariant-loop
invariant-loop l = record {
  planned : IsPlannedUpTo (planning_of l.walk.start.now.ranking l.walk.window l.walk.first.cycle l.walk.first.pending) (l.count + l.counter) l.masks.items
      (record { cycle = l.fn.planner.cycle + l.counter; pending = l.fn.planner.pending });
}
