-- Changes that are planned apart from a master, in another thread, and settled later.
use Rattle.std.specs.Prelude.{◌≡◌, ℕ, ◌≤◌, ◌++◌, ◌∷◌, [], List, All}
use Rattle.change_protocol.specs.declared.operations.Change.{Change}
use Rattle.master_core.specs.declared.answered.Answered.{Answered}
use Rattle.master_core.specs.declared.apart.Snapshot.{Snapshot as SnapshotOf}
use Rattle.master_core.specs.declared.event.Event.{Event}
use Rattle.master_core.specs.declared.event.Event.TheVariants.{Submit}
use Rattle.master_core.specs.CorePlans.{CanSettleFrom, CorePlannedView, IsAnsweredFrom, IsCorePlan, snapshot_of_core}
use Rattle.master_core.specs.CorePlans.{IsSettled as IsSettledByCore}
use Rattle.master_core.specs.Cores.{CoreView, IsCore, IsStateOf, answered_by}
use Rattle.master_handle.specs.declared.held.HandleContent.{HandleContent}
use Rattle.master_handle.specs.declared.held.HandleContent.TheVariants.{Master, Snapshot, Planned}
use Rattle.c_values.specs.declared.plain.FttOp.{FttOp}
use Rattle.c_values.specs.declared.plain.FttVerdict.{FttVerdict}
use Rattle.c_values.specs.declared.refusal.ExportRefusal.{ExportRefusal}
use Rattle.c_values.specs.declared.refusal.ExportRefusal.TheVariants as refused
use Rattle.fttcan_c.specs.Mastering.{HoldsMaster, IsCaller}
use Rattle.c_values.specs.Plain.{IsOp}
use Rattle.c_values.specs.Told.{told}

-- a snapshot of a master is held
pub record IsSnapshotOf (master made : HandleContent) : Type 0 where
  pub core : CoreView
  pub trail : List ℕ
  pub of : master ≡ Master core trail
  pub is : made ≡ Snapshot (snapshot_of_core core)

-- a change was planned from a snapshot
pub record IsPlannedApart (change : Change) (old new : HandleContent) : Type 0 where
  pub snapshot : SnapshotOf
  pub planned : CorePlannedView
  pub from : old ≡ Snapshot snapshot
  pub is : new ≡ Planned planned
  pub plan : IsCorePlan snapshot change planned

-- a snapshot is held, or a planned change
pub record IsSnapshot (held : HandleContent) : Type 0 where
  pub snapshot : SnapshotOf
  pub is : held ≡ Snapshot snapshot

pub record HoldsPlanned (held : HandleContent) : Type 0 where
  pub planned : CorePlannedView
  pub is : held ≡ Planned planned

-- why nothing is planned: no snapshot is held, or there is no memory
abbrev pub RefusesPlanning : HandleContent → ExportRefusal → Type 0
RefusesPlanning held refused.Memory = IsSnapshot held
RefusesPlanning held refused.Argument = ⊥
RefusesPlanning held refused.Table = ⊥
RefusesPlanning held refused.State = ⊥
RefusesPlanning held refused.Room = ⊥
RefusesPlanning held refused.Miss = ⊥
RefusesPlanning held refused.Closed = IsSnapshot held → ⊥
RefusesPlanning held refused.Open = ⊥
RefusesPlanning held refused.Text = ⊥
RefusesPlanning held refused.No = ⊥

-- why a change is not planned apart: no snapshot is held; one is, and an operation is out of range; or neither, and there
-- is no memory
abbrev pub RefusesApart : List FttOp → HandleContent → ExportRefusal → Type 0
RefusesApart ops held refused.Memory = IsSnapshot held × All IsOp ops
RefusesApart ops held refused.Argument = IsSnapshot held × (All IsOp ops → ⊥)
RefusesApart ops held refused.Table = ⊥
RefusesApart ops held refused.State = ⊥
RefusesApart ops held refused.Room = ⊥
RefusesApart ops held refused.Miss = ⊥
RefusesApart ops held refused.Closed = IsSnapshot held → ⊥
RefusesApart ops held refused.Open = ⊥
RefusesApart ops held refused.Text = ⊥
RefusesApart ops held refused.No = ⊥

-- C is told what was decided of a planned change
pub record IsPlannedTold (verdict : FttVerdict) (held : HandleContent) : Type 0 where
  pub planned : CorePlannedView
  pub is : held ≡ Planned planned
  pub verdict_is : verdict ≡ told planned.decision.verdict

-- a core settled a change that was planned apart: its plan decided where that leads to this core, and else it was planned
-- anew. No deadline is missed behind it at any later cycle. Whoever has the history of the core in mind has it with this
-- answer behind it
pub record IsCoreSettled (caller : ℕ) (planned : CorePlannedView) (old new : CoreView) (answered : Answered) : Type 0 where
  pub after : new ≡ answered_by old answered.from planned.change answered.verdict
  pub answer : IsAnsweredFrom old planned.change answered
  pub decided : IsSettledByCore old planned answered
  pub safe : IsCore new
  pub history : (history : List Event) → IsStateOf history old → CanSettleFrom history old.forgets planned.snapshot
      → IsStateOf (history ++ Submit caller planned.change answered.from answered.verdict answered.trail ∷ []) new

-- a master settled what another handle held, C is told the verdict, and the trail is kept
pub record IsHeldSettled (caller : ℕ) (verdict : FttVerdict) (from old new : HandleContent) : Type 0 where
  pub planned : CorePlannedView
  pub core : CoreView
  pub trail : List ℕ
  pub next : CoreView
  pub answered : Answered
  pub of : from ≡ Planned planned
  pub before : old ≡ Master core trail
  pub after : new ≡ Master next answered.trail
  pub answer : IsCoreSettled caller planned core next answered
  pub verdict_is : verdict ≡ told answered.verdict

-- a master can settle what another handle holds
pub record CanSettleHeld (master from : HandleContent) : Type 0 where
  pub master_is : HoldsMaster master
  pub planned_is : HoldsPlanned from

-- why nothing is settled: one of the handles holds something else; they do not, and the operator is out of range; or
-- neither, and there is no memory
abbrev pub RefusesSettle : ℕ → HandleContent → HandleContent → ExportRefusal → Type 0
RefusesSettle caller held from refused.Memory = CanSettleHeld held from × IsCaller caller
RefusesSettle caller held from refused.Argument = CanSettleHeld held from × (IsCaller caller → ⊥)
RefusesSettle caller held from refused.Table = ⊥
RefusesSettle caller held from refused.State = ⊥
RefusesSettle caller held from refused.Room = ⊥
RefusesSettle caller held from refused.Miss = ⊥
RefusesSettle caller held from refused.Closed = CanSettleHeld held from → ⊥
RefusesSettle caller held from refused.Open = ⊥
RefusesSettle caller held from refused.Text = ⊥
RefusesSettle caller held from refused.No = ⊥
