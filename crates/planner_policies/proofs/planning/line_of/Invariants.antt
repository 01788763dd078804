use Rattle.std.proofs.Common.{take}
use Rattle.planner_policies.specs.Plan.{planning_of}
use Rattle.bit_sets.specs.Sets.{has_bit}
use Rattle.planner_policies.proofs.Rows.{IsLineOf}
use Rattle.planner_policies.proofs.planning.line_of.Given as goal

abbrev pub invariant-loop-row : goal.invariant-loop-row
invariant-loop-row g l = IsLineOf (planning_of l.ranked l.w l.state.cycle l.state.pending) l.state.cycle (has_bit l.state.pending)
    (take l.row-index l.rows) l.line
