use Rattle.std.proofs.Common.{◌≡◌, ◌-◌, ◌≤◌}
use Rattle.planner_policies.specs.Plan.{planning_of}
use Rattle.admission.specs.Course.{state_in}
use Rattle.admission.specs.Verdict.{IsPlannedUpTo}
use Rattle.admission.proofs.deciding.plan_cycles.Given as goal

-- what is planned so far, by a planner of the entries that are walked
abbrev pub invariant-loop-count : goal.invariant-loop-count
invariant-loop-count l = record {
  planned : IsPlannedUpTo (planning_of l.walk.start.now.ranking l.walk.window l.walk.first.cycle l.walk.first.pending) l.count l.masks.items (state_in l.planner);
  entries : l.planner.ranking ≡ l.walk.start.now.ranking;
  within : l.count ≤ l.cycles;
}

abbrev pub decreases-loop-count : goal.decreases-loop-count
decreases-loop-count l = l.cycles - l.count
