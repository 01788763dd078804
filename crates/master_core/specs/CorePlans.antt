-- Changes that are planned apart from a core, and settled later.
use Rattle.std.specs.Prelude.{◌≡◌, ℕ, ◌-◌, ◌≤◌, ◌⊎◌, Bool, if◌then◌else◌, List, []}
use mathlib.Core.List.{IsPrefix}
use Rattle.requirement_table.specs.declared.entries.Placed.{Placed}
use Rattle.change_protocol.specs.declared.operations.Change.{Change}
use Rattle.change_protocol.specs.Applied.{applied}
use Rattle.planner_policies.specs.declared.state.PlanState.{PlanState}
use Rattle.planner_policies.specs.Plan.{HasNoMiss, IsValid, pending_at}
use Rattle.admission_rules.specs.declared.Rules.{Rules}
use Rattle.admission.specs.declared.decision.Decision.{Decision}
use Rattle.admission.specs.declared.verdict.Verdict.{Verdict}
use Rattle.admission.specs.declared.verdict.Verdict.TheVariants.{Passed}
use Rattle.admission.specs.Verdict.{IsDecision, IsInTime, IsTakenWhereDue, IsVerdict, plan_from, trail_of}
use Rattle.master_core.specs.Answers.{is_passed_by}
use Rattle.master_core.specs.declared.answered.Answered.{Answered}
use Rattle.master_core.specs.declared.apart.Snapshot.{Snapshot}
use Rattle.master_core.specs.declared.event.Event.{Event}
use Rattle.master_core.specs.Cores.{CoreView, IsAnswered, IsStateOf, state_of}
use Rattle.master_core.specs.History.{accepted_of}

-- the snapshot of a core
abbrev pub snapshot_of_core : CoreView → Snapshot
snapshot_of_core core = record {
  rules = core.rules;
  placed = core.placed;
  state = state_of core;
  accepted = core.accepted;
}

-- what contracts see of a change that was planned from a snapshot of a core
pub record CorePlannedView : Type 0 where
  pub snapshot : Snapshot
  pub change : Change
  pub decision : Decision

-- it is what is decided of this change from this snapshot
pub record IsCorePlan (snapshot : Snapshot) (change : Change) (planned : CorePlannedView) : Type 0 where
  pub snapshot_is : planned.snapshot ≡ snapshot
  pub asked : planned.change ≡ change
  pub decided : IsDecision snapshot.rules snapshot.placed snapshot.state.pending snapshot.state.cycle change
      planned.decision

-- *Leads*: the plan of the list from the one state on leads to the other one. What is pending before the first one may
-- still be sent, no deadline is missed in the cycles before the other one, and then its slots are pending
pub record Leads (rules : Rules) (placed : List Placed) (from to : PlanState) : Type 0 where
  pub early : from.cycle ≤ to.cycle
  pub held : IsValid placed from.cycle from.pending
  pub in_time : HasNoMiss (plan_from rules placed from.cycle from.pending) (to.cycle - from.cycle)
  pub pending : to.pending ≡ pending_at (plan_from rules placed from.cycle from.pending) (to.cycle - from.cycle)

-- the plan from the snapshot leads to the core: they have the same rules, entries and number of accepted changes
pub record IsLedTo (core : CoreView) (snapshot : Snapshot) : Type 0 where
  pub rules : snapshot.rules ≡ core.rules
  pub placed : snapshot.placed ≡ core.placed
  pub accepted : snapshot.accepted ≡ core.accepted
  pub leads : Leads core.rules core.placed snapshot.state (state_of core)

-- a change is answered by a plan of the entries that leads to the state of the core, from its first cycle on; where the
-- start has passed by the next cycle, it is refused for that
pub record IsAnsweredFrom (core : CoreView) (change : Change) (answered : Answered) : Type 0 where
  pub pending : ℕ
  pub leads : Leads core.rules core.placed (record { cycle = answered.from; pending = pending }) (state_of core)
  pub verdict : IsVerdict core.rules core.placed pending answered.from core.cycle change answered.verdict
  pub trail : answered.trail
      ≡ trail_of (plan_from core.rules (applied core.placed change) answered.from pending) answered.verdict

-- the answer to a change is what is decided of it, planned from this state on, when the next cycle of the core is the
-- next one to be opened
pub record IsAnsweredAt (core : CoreView) (state : PlanState) (change : Change) (answered : Answered) : Type 0 where
  pub from : answered.from ≡ state.cycle
  pub verdict : IsVerdict core.rules core.placed state.pending state.cycle core.cycle change answered.verdict
  pub trail : answered.trail
      ≡ trail_of (plan_from core.rules (applied core.placed change) state.cycle state.pending) answered.verdict

-- a change that is in time and is planned from this state on is accepted where that is due
abbrev pub IsTakenFrom : CoreView → PlanState → Change → Verdict → Type 0
IsTakenFrom core state change verdict =
    IsInTime core.rules core.placed core.cycle change
    → IsTakenWhereDue core.rules (plan_from core.rules (applied core.placed change) state.cycle state.pending) verdict

-- what a plan answers when `next` is the next cycle to be opened: what was decided when it was made. But a change that
-- breaks no rule and whose start has passed by then is refused for that
abbrev pub planned_answer : ℕ → CorePlannedView → Answered
planned_answer next planned =
    if is_passed_by next planned.change.start planned.decision.verdict
    then record { from = planned.snapshot.state.cycle; verdict = Passed planned.change.start next; trail = [] }
    else record {
      from = planned.snapshot.state.cycle;
      verdict = planned.decision.verdict;
      trail = planned.decision.trail;
    }

-- the plan of a change decides, since it leads to the core: it is answered as planned from the state of the snapshot
pub record IsSettledByPlan (core : CoreView) (planned : CorePlannedView) (answered : Answered) : Type 0 where
  pub led : IsLedTo core planned.snapshot
  pub same : answered ≡ planned_answer core.cycle planned
  pub answer : IsAnsweredAt core planned.snapshot.state planned.change answered
  pub due : IsTakenFrom core planned.snapshot.state planned.change answered.verdict

-- the change is planned anew, from the next cycle on, since its plan does not lead to the core
pub record IsSettledAnew (core : CoreView) (planned : CorePlannedView) (answered : Answered) : Type 0 where
  pub apart : IsLedTo core planned.snapshot → ⊥
  pub answer : IsAnswered core planned.change answered
  pub due : IsTakenFrom core (state_of core) planned.change answered.verdict

-- *Settled*: the plan of a change decides exactly where it leads to the core
abbrev pub IsSettled : CoreView → CorePlannedView → Answered → Type 0
IsSettled core planned answered = IsSettledByPlan core planned answered ⊎ IsSettledAnew core planned answered

-- the snapshot is one of a core that forgets so, and that was the state at some place of the history
pub record IsSnapshotIn (history : List Event) (forgets : Bool) (snapshot : Snapshot) : Type 0 where
  pub front : List Event
  pub begins : IsPrefix front history
  pub core : CoreView
  pub of : IsStateOf front core
  pub same : core.forgets ≡ forgets
  pub is : snapshot ≡ snapshot_of_core core

-- a plan from the snapshot can be settled after the history: where no change was accepted since, the snapshot was taken
-- at some place of the history
abbrev pub CanSettleFrom : List Event → Bool → Snapshot → Type 0
CanSettleFrom history forgets snapshot = snapshot.accepted ≡ accepted_of history → IsSnapshotIn history forgets snapshot
