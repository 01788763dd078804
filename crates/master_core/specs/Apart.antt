-- Changes that are planned apart from a master, and settled later.
use Rattle.std.specs.Prelude.{◌≡◌, ◌==◌, ℕ, ◌≤◌, if◌then◌else◌, List}
use Rattle.profile.specs.Limits.{openings_end}
use mathlib.Core.List.{IsPrefix}
use Rattle.requirement_table.specs.Table.{IsWellPlaced}
use Rattle.change_protocol.specs.declared.operations.Change.{Change}
use Rattle.planner_policies.specs.Plan.{IsValid, pending_at}
use Rattle.admission_rules.specs.declared.Rules.{Rules}
use Rattle.admission.specs.declared.decision.Decision.{Decision}
use Rattle.admission.specs.Verdict.{IsDecision, IsRules}
use Rattle.master_core.specs.declared.apart.Snapshot.{Snapshot}
use Rattle.master_core.specs.declared.event.Event.{Event}
use Rattle.master_core.specs.History.{accepted_of, next_of, placed_of, plan_of}

-- the snapshot of a master with this history
abbrev pub snapshot_of : Rules → List Event → Snapshot
snapshot_of rules history = record {
  rules = rules;
  placed = placed_of history;
  state = record {
    cycle = next_of history;
    pending = pending_at (plan_of rules (placed_of history)) (next_of history);
  };
  accepted = accepted_of history;
}

-- a change can be planned from the snapshot
pub record IsPlannable (snapshot : Snapshot) : Type 0 where
  pub rules : IsRules snapshot.rules
  pub well_placed : IsWellPlaced snapshot.placed
  pub valid : IsValid snapshot.placed snapshot.state.cycle snapshot.state.pending
  pub next : snapshot.state.cycle ≤ openings_end

-- what contracts see of a change that was planned apart: the rules, the number of changes that had been accepted, the
-- change, the cycle from which it was planned, and what was decided of it
pub record PlannedView : Type 0 where
  pub rules : Rules
  pub accepted : ℕ
  pub change : Change
  pub from : ℕ
  pub decision : Decision

-- *Planned apart*: what is decided of this change from this snapshot
pub record IsPlanOf (snapshot : Snapshot) (change : Change) (planned : PlannedView) : Type 0 where
  pub rules : planned.rules ≡ snapshot.rules
  pub accepted : planned.accepted ≡ snapshot.accepted
  pub asked : planned.change ≡ change
  pub from : planned.from ≡ snapshot.state.cycle
  pub decided : IsDecision snapshot.rules snapshot.placed snapshot.state.pending snapshot.state.cycle change
      planned.decision

-- a change that was planned apart can be settled after this history: it was planned by these rules, and where no other
-- change was accepted since, from the snapshot at some place of the history
pub record CanSettle (rules : Rules) (history : List Event) (change : Change) (planned : PlannedView) : Type 0 where
  pub snapshot : Snapshot
  pub plan : IsPlanOf snapshot change planned
  pub same_rules : snapshot.rules ≡ rules
  pub place : snapshot.accepted ≡ accepted_of history
      → (front : List Event) × IsPrefix front history × (snapshot ≡ snapshot_of rules front)

-- the cycle from which a settled change is planned: that of its plan where no other change was accepted since, and else
-- the next one
abbrev pub from_of : List Event → PlannedView → ℕ
from_of history planned = if planned.accepted == accepted_of history then planned.from else next_of history
