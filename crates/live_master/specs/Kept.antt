-- What a call of the shared master does that plans from the entries which the master keeps.
use Rattle.std.specs.Prelude.{◌≡◌, ℕ, ◌++◌, List}
use mathlib.Core.List.{IsPrefix}
use Rattle.turn_lock.specs.Passes.{Known}
use Rattle.admission_rules.specs.declared.Rules.{Rules}
use Rattle.admission.specs.declared.verdict.Verdict.{Verdict}
use Rattle.master_core.specs.declared.apart.Snapshot.{Snapshot}
use Rattle.master_core.specs.declared.event.Event.{Event}
use Rattle.master_core.specs.declared.event.Event.TheVariants.{Submit}
use Rattle.master_core.specs.Apart.{snapshot_of}
use Rattle.master_core.specs.CorePlans.{CorePlannedView}
use Rattle.master_core.specs.Kept.{kept_from, kept_of}
use Rattle.live_master.specs.Calls.{GaveBack, IsAnsweredInTurn, IsTurnRefused}
use Rattle.live_master.specs.declared.kept.KeptFault.{KeptFault}
use Rattle.live_master.specs.declared.kept.KeptFault.TheVariants.{Busy, Memory}

-- the snapshot of a master with this history, with the entries that it keeps in place of all placed ones
abbrev pub kept_snapshot_of : Rules → List Event → Snapshot
kept_snapshot_of rules history = record (snapshot_of rules history) { placed = kept_of history }

-- a snapshot of the kept entries was taken: that of the history which the pass has seen then. Nothing else changed
pub record KeptSnapped (rules : Rules) (old new : Known Event Rules) (snapshot : Snapshot) : Type 0 where
  pub gave_back : GaveBack old new
  pub is : snapshot ≡ kept_snapshot_of rules new.view.seen

-- a change was planned from the snapshot of the kept entries at some place of this history
pub record IsKeptPlanIn (rules : Rules) (history : List Event) (planned : CorePlannedView) : Type 0 where
  pub front : List Event
  pub begins : IsPrefix front history
  pub is : planned.snapshot ≡ kept_snapshot_of rules front

-- a change that was planned from the kept entries was answered by this verdict, from the cycle of its plan or from the
-- next one, and left some trail
pub record KeptSettled (old new : Known Event Rules) (planned : CorePlannedView) (verdict : Verdict) : Type 0 where
  pub from : ℕ
  pub trail : List ℕ
  pub answered : IsAnsweredInTurn old new (Submit old.view.number planned.change from verdict trail)
  pub planned_from : from ≡ kept_from (old.view.seen ++ answered.between) planned

-- it was not settled: another pass held the turn, and the plan was handed back, or memory ran out once the turn was got
abbrev pub KeptFaulted : Known Event Rules → Known Event Rules → CorePlannedView → KeptFault → Type 0
KeptFaulted old new planned (Busy word back) = IsTurnRefused old new word × (back ≡ planned)
KeptFaulted old new planned Memory = GaveBack old new
