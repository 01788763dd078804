use Rattle.std.proofs.Common.{◌≡◌, ℕ, ◌&&◌, not, take}
use Rattle.std.specs.List.{list_any}
use Rattle.bit_sets.specs.Sets.{has_bit}
use Rattle.planner_policies.specs.Due.{holds_of}
use Rattle.planner_policies.proofs.planning.valid.Given as goal

abbrev pub invariant-loop-row : goal.invariant-loop-row
invariant-loop-row l = (slot : ℕ) → has_bit l.rest slot
    ≡ (has_bit l.state.pending slot && not (list_any (holds_of l.state.cycle slot) (take l.row-index l.rows)))
