-- *Verdict*: what is to be answered to a change.
use Rattle.std.specs.Prelude.{◌≡◌, ℕ, zero, suc, ◌+◌, ◌-◌, ◌<◌, ◌≤◌}
use Rattle.std.specs.Prelude.{Bool, true, false, List, [], ◌∷◌, ◌++◌, Option, Some, None}
use Rattle.profile.specs.Limits.{greatest_horizon, longest_window, most_nodes, shortest_window}
use Rattle.requirement_table.specs.declared.entries.Placed.{Placed}
use Rattle.bit_sets.specs.Sets.{most_slots}
use Rattle.requirement_table.specs.Table.{IsWellPlaced}
use Rattle.change_protocol.specs.declared.operations.Change.{Change}
use Rattle.change_protocol.specs.declared.malformed.ApplyFault.{ApplyFault}
use Rattle.change_protocol.specs.declared.malformed.ApplyFault.TheVariants.{Memory, Malformed as Unapplied}
use Rattle.change_protocol.specs.Applied.{applied}
use Rattle.change_protocol.specs.Malformed.{Bounds, IsWellFormed, bounds_of, broken, first_fault}
use Rattle.planner_policies.specs.Plan.{HasNoMiss, IsFirstMiss, IsMissAt, IsValid, NeverMisses, Planning, Ranking, mask_at, planning_of}
use Rattle.planner_policies.specs.declared.state.PlanState.{PlanState}
use Rattle.admission.specs.Course.{state_at}
use Rattle.admission_rules.specs.declared.Rules.{Rules}
use Rattle.admission.specs.declared.decision.Decision.{Decision}
use Rattle.admission.specs.declared.verdict.Verdict.{Verdict}
use Rattle.admission.specs.declared.verdict.Verdict.TheVariants.{Malformed, Passed, Miss, Horizon, Accepted}
use Rattle.admission.specs.Recurrence.{AllRelease, HasNoRecurrence, IsLeastCommonPeriod, IsRecurrence, bound_of}

-- whether the change was taken
abbrev pub is_accepted : Verdict → Bool
is_accepted (Malformed op why) = false
is_accepted (Passed start next) = false
is_accepted (Miss slot release cycle) = false
is_accepted (Horizon from walked) = false
is_accepted (Accepted first length) = true

-- the rules are in range
pub record IsRules (rules : Rules) : Type 0 where
  pub some_nodes : 1 ≤ rules.nodes
  pub few_nodes : rules.nodes ≤ most_nodes
  pub few_slots : rules.slots ≤ most_slots
  pub least_window : shortest_window ≤ rules.window
  pub greatest_window : rules.window ≤ longest_window
  pub some_cycles : 1 ≤ rules.horizon
  pub near_horizon : rules.horizon ≤ greatest_horizon

-- the numbers of nodes and of slots of the rules, by which a change is tested
abbrev pub bounds_by : Rules → Bounds
bounds_by rules = bounds_of rules.nodes rules.slots

-- a list as these rules order it and take of it
abbrev pub ranking_by : Rules → List Placed → Ranking
ranking_by rules placed = record { placed = placed; policy = rules.policy; fill = rules.fill }

-- the planning of a list by these rules, from a cycle on before which these slots are pending
abbrev pub plan_from : Rules → List Placed → ℕ → ℕ → Planning
plan_from rules placed from pending = planning_of (ranking_by rules placed) rules.window from pending

-- the change breaks no rule, and its start has not passed when `next` is the next cycle to be opened
pub record IsInTime (rules : Rules) (placed : List Placed) (next : ℕ) (change : Change) : Type 0 where
  pub well_formed : IsWellFormed placed (bounds_by rules) change
  pub ahead : next ≤ change.start

-- what is to be answered of a planning within a horizon: its first miss, where that lies within it; else there is none
-- in it, and the answer is the recurrence that lies within it, or that there is none
abbrev pub IsVerdictOnPlan : ℕ → Planning → Verdict → Type 0
IsVerdictOnPlan horizon plan (Malformed op why) = ⊥
IsVerdictOnPlan horizon plan (Passed start next) = ⊥
IsVerdictOnPlan horizon plan (Miss slot release cycle) =
    IsFirstMiss plan slot release cycle × (cycle < plan.from + horizon)
IsVerdictOnPlan horizon plan (Horizon from walked) =
    HasNoMiss plan horizon × HasNoRecurrence plan horizon × (from ≡ plan.from) × (walked ≡ horizon)
IsVerdictOnPlan horizon plan (Accepted first length) =
    HasNoMiss plan horizon × IsRecurrence plan first length × (first + length ≤ plan.from + horizon)

-- *Verdict*: on a change of this list, planned from the cycle `from`, before which these slots are pending, when `next`
-- is the next cycle to be opened
abbrev pub IsVerdict : Rules → List Placed → ℕ → ℕ → ℕ → Change → Verdict → Type 0
IsVerdict rules placed pending from next change (Malformed op why) =
    first_fault placed (bounds_by rules) change ≡ Some (broken op why)
IsVerdict rules placed pending from next change (Passed start opened) =
    IsWellFormed placed (bounds_by rules) change × (change.start < next) × (start ≡ change.start) × (opened ≡ next)
IsVerdict rules placed pending from next change (Miss slot release cycle) =
    IsInTime rules placed next change
    × IsVerdictOnPlan rules.horizon (plan_from rules (applied placed change) from pending) (Miss slot release cycle)
IsVerdict rules placed pending from next change (Horizon first walked) =
    IsInTime rules placed next change
    × IsVerdictOnPlan rules.horizon (plan_from rules (applied placed change) from pending) (Horizon first walked)
IsVerdict rules placed pending from next change (Accepted first length) =
    IsInTime rules placed next change
    × IsVerdictOnPlan rules.horizon (plan_from rules (applied placed change) from pending) (Accepted first length)

-- the sets of slots that are planned in the first n cycles
abbrev pub masks_of : Planning → ℕ → List ℕ
masks_of plan zero = []
masks_of plan (suc n) = masks_of plan n ++ mask_at plan n ∷ []

-- the plan that goes with a verdict: for a miss that of the cycles from the first one to the one of the miss, both
-- included
abbrev pub trail_of : Planning → Verdict → List ℕ
trail_of plan (Malformed op why) = []
trail_of plan (Passed start next) = []
trail_of plan (Miss slot release cycle) = masks_of plan (cycle + 1 - plan.from)
trail_of plan (Horizon from walked) = []
trail_of plan (Accepted first length) = []

-- the list that an accepted change makes
abbrev pub placed_with : List Placed → Verdict → Option (List Placed)
placed_with placed (Malformed op why) = None
placed_with placed (Passed start next) = None
placed_with placed (Miss slot release cycle) = None
placed_with placed (Horizon from walked) = None
placed_with placed (Accepted first length) = Some placed

-- what is decided of a change of this list, planned from the cycle `from`, which is the next one to be opened
pub record IsDecision (rules : Rules) (placed : List Placed) (pending from : ℕ) (change : Change) (decision : Decision)
    : Type 0 where
  pub answer : IsVerdict rules placed pending from from change decision.verdict
  pub list : decision.placed ≡ placed_with (applied placed change) decision.verdict
  pub plan : decision.trail ≡ trail_of (plan_from rules (applied placed change) from pending) decision.verdict

-- what is decided of a list whose planning is this one
pub record IsDecisionOnPlan (horizon : ℕ) (planning : Planning) (decision : Decision) : Type 0 where
  pub answer : IsVerdictOnPlan horizon planning decision.verdict
  pub list : decision.placed ≡ placed_with planning.placed decision.verdict
  pub plan : decision.trail ≡ trail_of planning decision.verdict

-- what is decided of a change that is not applied for this reason
abbrev pub IsMalformed : ApplyFault → Decision → Type 0
IsMalformed (Unapplied op why) decision =
    (decision.verdict ≡ Malformed op why) × (decision.placed ≡ None) × (decision.trail ≡ [])
IsMalformed Memory decision = ⊥

-- the first n cycles of a planning were planned: the state behind them, and the slots that are planned in them
pub record IsPlannedUpTo (planning : Planning) (number : ℕ) (masks : List ℕ) (behind : PlanState) : Type 0 where
  pub state : behind ≡ state_at planning number
  pub held : IsValid planning.placed behind.cycle behind.pending
  pub list : masks ≡ masks_of planning number

-- what is decided where the planning has its first miss behind so many cycles
pub record IsMissDecision (planning : Planning) (number : ℕ) (decision : Decision) : Type 0 where
  pub slot : ℕ
  pub release : ℕ
  pub answer : decision.verdict ≡ Miss slot release (planning.from + number)
  pub miss : IsMissAt planning number slot release
  pub list : decision.placed ≡ None
  pub plan : decision.trail ≡ masks_of planning (number + 1)

-- a list that may be planned for ever, from a cycle on before which these slots are pending
pub record IsSafe (rules : Rules) (placed : List Placed) (from pending : ℕ) : Type 0 where
  pub well_placed : IsWellPlaced placed
  pub held : IsValid placed from pending
  pub in_time : NeverMisses (plan_from rules placed from pending)

-- *Completeness of admission*: a change that breaks no rule, whose start has not passed, and whose planning has no
-- miss, is accepted wherever there is a cycle by which all entries have settled, in which each live entry releases an
-- instance, and which lies a whole common period within the horizon
abbrev pub IsTakenWhereDue : Rules → Planning → Verdict → Type 0
IsTakenWhereDue rules plan verdict =
    NeverMisses plan → (c period : ℕ) → bound_of plan.from plan.placed ≤ c → AllRelease plan.placed c
    → IsLeastCommonPeriod plan.placed period → c + period ≤ plan.from + rules.horizon → is_accepted verdict ≡ true
