-- What a lean master keeps of the placed entries of its history, and what it keeps beside them. Cycles are elementary
-- cycles, counted from 0.
use Rattle.std.specs.Prelude.{◌≡◌, ℕ, ◌==◌, Bool, true, List, [], Option, Some, None, fold, if◌then◌else◌}
use mathlib.Core.List.{IsPrefix}
use Rattle.requirement_table.specs.declared.entries.Placed.{Placed}
use Rattle.change_protocol.specs.declared.operations.Change.{Change}
use Rattle.change_protocol.specs.Applied.{applied}
use Rattle.change_protocol.specs.Pruned.{pruned}
use Rattle.planner_policies.specs.declared.state.PlanState.{PlanState}
use Rattle.admission_rules.specs.declared.Rules.{Rules}
use Rattle.admission.specs.declared.verdict.Verdict.{Verdict}
use Rattle.admission.specs.Verdict.{is_accepted}
use Rattle.master_core.specs.declared.apart.Snapshot.{Snapshot}
use Rattle.master_core.specs.declared.event.Event.{Event}
use Rattle.master_core.specs.declared.event.Event.TheVariants.{Submit, Look, Open}
use Rattle.master_core.specs.Apart.{snapshot_of}
use Rattle.master_core.specs.CorePlans.{CorePlannedView}
use Rattle.master_core.specs.declared.answer.Answer.{Answer}
use Rattle.master_core.specs.Answers.{IsAnswerAs}
use Rattle.master_core.specs.Cores.{CoreView, IsPrunedBefore}
use Rattle.master_core.specs.History.{IsRightAnswer, accepted_of, next_of, placed_of}
use Rattle.master_core.specs.Journals.{LeanView}

-- what is kept behind an answer to a change that was planned from a cycle on: where it is accepted, the entries with the
-- change applied, pruned by that cycle; where it is refused, the entries as before
abbrev pub kept_behind : List Placed → ℕ → Change → Verdict → List Placed
kept_behind kept from change verdict = if is_accepted verdict then pruned from (applied kept change) else kept

-- *Kept entries* of a history: each accepted change is applied to those before it, and they are pruned by the cycle from
-- which it was planned
abbrev pub kept_after : List Placed → Event → List Placed
kept_after kept (Submit caller change from verdict trail) = kept_behind kept from change verdict
kept_after kept (Look caller next) = kept
kept_after kept (Open cycle mask) = kept

abbrev pub kept_of : List Event → List Placed
kept_of history = fold kept_after [] history

-- all placed entries of a history, where all events are kept
abbrev pub all_of : Bool → List Event → Option (List Placed)
all_of keeps history = if keeps then Some (placed_of history) else None

-- the state before the next cycle after a history
abbrev pub state_after : Rules → List Event → PlanState
state_after rules history = (snapshot_of rules history).state

-- what a change is planned from, apart from a lean master: the entries that it keeps, and a state of the plan
abbrev pub kept_snapshot : LeanView → PlanState → Snapshot
kept_snapshot master state = record {
  rules = master.rules;
  placed = master.placed;
  state = state;
  accepted = accepted_of master.history;
}

-- the snapshot has the entries that the master keeps now, and the state after a front of the history, behind which no
-- change was accepted. These entries are those placed by the front, pruned by a cycle that is not above its next one
pub record IsKeptSnapshotIn (master : LeanView) (snapshot : Snapshot) : Type 0 where
  pub front : List Event
  pub begins : IsPrefix front master.history
  pub count : accepted_of front ≡ accepted_of master.history
  pub same : snapshot.placed ≡ master.placed
  pub held : IsPrunedBefore (next_of front) (placed_of front) master.placed
  pub state : snapshot.state ≡ state_after master.rules front

-- a change that was planned from a snapshot can be settled: it was planned by the rules of the master, and where no other
-- change was accepted since, from a snapshot of it
pub record CanSettleKept (master : LeanView) (planned : CorePlannedView) : Type 0 where
  pub rules : planned.snapshot.rules ≡ master.rules
  pub place : planned.snapshot.accepted ≡ accepted_of master.history → IsKeptSnapshotIn master planned.snapshot

-- the cycle from which it is planned then: that of its plan where no other change was accepted since, and else the next
-- one
abbrev pub kept_from : List Event → CorePlannedView → ℕ
kept_from history planned =
    if planned.snapshot.accepted == accepted_of history then planned.snapshot.state.cycle else next_of history

-- what contracts see of a lean master with this core
abbrev pub lean_of : CoreView → List Event → ℕ → Bool → LeanView
lean_of core history spare keeps = record {
  rules = core.rules;
  history = history;
  placed = core.placed;
  spare = spare;
  keeps = keeps;
}

-- where the core is the state after the history, an answer to this change, planned from a cycle on, can be put behind
-- it: it is one to the core, it is right behind the history, and the core keeps what that cycle needs
pub record IsSettledAs (history : List Event) (core : CoreView) (change : Change) (from : ℕ) (answer : Answer) : Type 0 where
  pub asked : answer.change ≡ change
  pub first : answer.from ≡ from
  pub to : IsAnswerAs true core answer
  pub held : IsPrunedBefore answer.from (placed_of history) core.placed
  pub right : IsRightAnswer core.rules history answer.change answer.from answer.verdict answer.trail
