-- The walk over the planning of a list.
use Rattle.std.specs.Prelude.{◌≡◌, ℕ, ◌+◌, ◌^◌, ◌<◌, ◌≤◌, List, Option}
use Rattle.requirement_table.specs.declared.entries.Placed.{Placed}
use Rattle.bit_sets.specs.Sets.{most_slots}
use Rattle.requirement_table.specs.Table.{IsWellPlaced, not_over}
use Rattle.planner_policies.specs.declared.state.PlanState.{PlanState}
use Rattle.planner_policies.specs.Plan.{IsValid, Ranking, Standing, planning_of}
use Rattle.recurrence_check.specs.Stretch.{further}
use Rattle.release_wheel.specs.Passed.{LeavesSame}
use Rattle.admission_rules.specs.declared.Rules.{Rules}
use Rattle.admission.specs.Course.{key_in_period}
use Rattle.admission.specs.Period.{IsPeriodUpTo}
use Rattle.admission.specs.Recurrence.{bound_of}
use Rattle.admission.specs.Verdict.{ranking_by}

-- what is walked: a list without the entries that are over, by these rules and from this cycle on, with the bound and
-- the period of the whole list
pub record IsWalked (rules : Rules) (list : List Placed) (from pending : ℕ) (walked : Ranking)
    (window : ℕ) (first : PlanState) (bound : ℕ) (period : Option ℕ) : Type 0 where
  pub well : IsWellPlaced list
  pub valid : IsValid list from pending
  pub known : pending < 2 ^ most_slots
  pub walked_is : walked ≡ ranking_by rules (not_over from list)
  pub window_is : window ≡ rules.window
  pub first_is : first ≡ record { cycle = from; pending = pending }
  pub bound_is : bound ≡ bound_of from list
  pub period_is : IsPeriodUpTo rules.horizon list period

-- a planning of the list stands at the state, or at a later cycle. Up to that cycle the walk comes to states that differ
-- by their cycles alone
pub record IsOn (ranking : Ranking) (window : ℕ) (here : Standing) (state : PlanState) : Type 0 where
  pub ranking_is : here.ranking ≡ ranking
  pub pending_is : here.pending ≡ state.pending
  pub onward : state.cycle ≤ here.cycle
  pub valid : (c : ℕ) → state.cycle ≤ c → c ≤ here.cycle → IsValid ranking.placed c state.pending
  pub passed : (c : ℕ) → state.cycle ≤ c → c < here.cycle → LeavesSame (planning_of ranking window c state.pending)

-- the states in so many cycles behind that of this state, with the same slots pending, have keys with one mark. Their
-- places go up from that of this key; or none of these states has a key
abbrev pub AreKeys : ℕ → Option ℕ → PlanState → ℕ → Option (ℕ × ℕ) → Type 0
AreKeys bound period state steps key = (k : ℕ) → k < steps
    → key_in_period bound period (record { cycle = state.cycle + 1 + k; pending = state.pending }) ≡ further key k
