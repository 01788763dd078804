-- The states of a plan from which a change can be planned: those before the cycles from the one on that was the next one
-- when a change was accepted last. Where no change was accepted, that is cycle 0.
use Rattle.std.specs.Prelude.{◌≡◌, ℕ, ◌+◌, ◌≤◌, List, Some, length, slice_get}
use mathlib.Core.List.{IsPrefix}
use Rattle.requirement_table.specs.declared.entries.Placed.{Placed}
use Rattle.admission_rules.specs.declared.Rules.{Rules}
use Rattle.planner_policies.specs.Plan.{IsValid}
use Rattle.planner_policies.specs.declared.state.PlanState.{PlanState}
use Rattle.master_core.specs.Cores.{IsPrunedBefore}
use Rattle.master_core.specs.declared.event.Event.{Event}
use Rattle.master_core.specs.History.{IsSince, accepted_of, next_of, placed_of}
use Rattle.master_core.specs.Kept.{state_after}
use Rattle.trace_audit.specs.declared.states.States.{States}

-- the state is that after a front of the history behind which no change was accepted, when this cycle was the next one
pub record IsStateAt (rules : Rules) (history : List Event) (cycle : ℕ) (state : PlanState) : Type 0 where
  pub front : List Event
  pub begins : IsPrefix front history
  pub next : next_of front ≡ cycle
  pub same_table : placed_of front ≡ placed_of history
  pub same_count : accepted_of front ≡ accepted_of history
  pub is : state ≡ state_after rules front

-- the states are those before the cycles from `since` on, up to the next one; and a change cannot be planned from any
-- cycle below `since`. From each of them the plan of these placed entries, which are those of the history, pruned by a
-- cycle that is not above `since`, can go on
pub record KeepsStates (rules : Rules) (history : List Event) (placed : List Placed) (states : States) : Type 0 where
  pub up_to_next : states.since + length states.before.items ≡ next_of history + 1
  pub some : states.since ≤ next_of history
  pub each : (k : ℕ) (state : PlanState) → slice_get states.before.items k ≡ Some state
      → IsStateAt rules history (states.since + k) state
  pub valid : (k : ℕ) (state : PlanState) → slice_get states.before.items k ≡ Some state
      → IsValid placed state.cycle state.pending
  pub held : IsPrunedBefore states.since (placed_of history) placed
  pub behind : IsSince history states.since
  pub least : (from : ℕ) → IsSince history from → states.since ≤ from
