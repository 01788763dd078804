-- The states of a planning, one after the other, and which of them are the same.
use Rattle.std.specs.Prelude.{◌≡◌, ℕ, ◌+◌, ◌%◌, ◌≤◌}
use Rattle.std.specs.Prelude.{Bool, false, nat_eq, nat_le, nat_lt, if◌then◌else◌, List, Option, Some, None}
use Rattle.std.specs.Option.{option_map_or}
use Rattle.requirement_table.specs.declared.entries.Placed.{Placed}
use Rattle.requirement_table.specs.Instance.{release_of}
use Rattle.bit_sets.specs.Sets.{has_bit, set_of, most_slots}
use Rattle.requirement_table.specs.Table.{instance_in}
use Rattle.planner_policies.specs.declared.state.PlanState.{PlanState}
use Rattle.planner_policies.specs.Plan.{IsValid, Planning, Ranking, Standing, is_missed_in, left_after, pending_at, planning_of}
use Rattle.recurrence_check.specs.Course.{Course}

-- the slots with an instance that is missed in the cycle of a state, and those that are pending behind it
unfoldable pub missed_from : Ranking → ℕ → PlanState → ℕ
missed_from ranking window state =
    set_of most_slots
    (is_missed_in (planning_of ranking window state.cycle state.pending) state.cycle (has_bit state.pending))

unfoldable pub left_from : Ranking → ℕ → PlanState → ℕ
left_from ranking window state =
    set_of most_slots
    (left_after (planning_of ranking window state.cycle state.pending) state.cycle (has_bit state.pending))

-- the state behind a state; there is none where an instance is missed
abbrev pub state_behind : Ranking → ℕ → PlanState → Option PlanState
state_behind ranking window state =
    if nat_eq (missed_from ranking window state) 0
    then Some (record { cycle = state.cycle + 1; pending = left_from ranking window state })
    else None

-- two states are the same: all entries have settled by both, which is so from `bound` on, they have one place in the
-- period, and the same slots are pending before them
pub record IsSameState (bound period : ℕ) (one other : PlanState) : Type 0 where
  pub one_settled : bound ≤ one.cycle
  pub other_settled : bound ≤ other.cycle
  pub place : one.cycle % period ≡ other.cycle % period
  pub pending : one.pending ≡ other.pending

-- where the period is not known, it is above the horizon, and no two states are the same
abbrev pub IsSame : ℕ → Option ℕ → PlanState → PlanState → Type 0
IsSame bound None one other = ⊥
IsSame bound (Some period) one other = IsSameState bound period one other

-- the states of a planning from this one on
abbrev pub course_of : Ranking → ℕ → PlanState → ℕ → Option ℕ → Course PlanState
course_of ranking window first bound period =
    record { start = first; next = state_behind ranking window; alike = IsSame bound period }

-- the key of a state: the slots that are pending, and its place in the period
abbrev pub key_in_period : ℕ → Option ℕ → PlanState → Option (ℕ × ℕ)
key_in_period bound None state = None
key_in_period bound (Some period) state =
    if nat_le bound state.cycle then Some (state.pending, state.cycle % period) else None

-- the state of a planning before its n-th cycle
abbrev pub state_at : Planning → ℕ → PlanState
state_at plan n = record { cycle = plan.from + n; pending = pending_at plan n }

-- the state before the cycle that is planned next
abbrev pub state_in : Standing → PlanState
state_in standing = record { cycle = standing.cycle; pending = standing.pending }

-- the state may be planned from, and is one of these
pub record IsGoodState (ranking : Ranking) (from : ℕ) (state : PlanState) : Type 0 where
  pub held : IsValid ranking.placed state.cycle state.pending
  pub begun : from ≤ state.cycle

-- whether the slot's instance that may be sent in the cycle was released before it
abbrev pub is_held_from : List Placed → ℕ → ℕ → Bool
is_held_from placed c slot =
    option_map_or (λ i. nat_lt (release_of i.placed i.number) c) (instance_in placed slot c) false
