use Rattle.std.proofs.Common.{take}
use Rattle.planner_policies.specs.Plan.{planning_of}
use Rattle.bit_sets.specs.Sets.{has_bit}
use Rattle.planner_policies.proofs.AllFitting.{IsGathered}
use Rattle.planner_policies.proofs.planning.all_fitting.Given as goal

abbrev pub invariant-loop-row : goal.invariant-loop-row
invariant-loop-row l = IsGathered (planning_of l.ranked l.w l.state.cycle l.state.pending) l.state.cycle (has_bit l.state.pending)
    (take l.row-index l.rows) l.mask l.width
