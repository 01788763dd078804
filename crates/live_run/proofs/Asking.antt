-- A change that was planned from a snapshot of the kept entries.
use Rattle.std.proofs.Common.{[], ◌∙◌}
use Rattle.std.proofs.lemmas.List.{append-nil}
use Rattle.change_protocol.specs.declared.operations.Change.{Change}
use Rattle.admission_rules.specs.declared.Rules.{Rules}
use Rattle.turn_lock.specs.Passes.{Known}
use Rattle.master_core.specs.declared.apart.Snapshot.{Snapshot}
use Rattle.master_core.specs.declared.event.Event.{Event}
use Rattle.master_core.specs.CorePlans.{CorePlannedView, IsCorePlan}
use Rattle.live_master.specs.Calls.{AfterWaiting}
use Rattle.live_master.specs.Kept.{IsKeptPlanIn, KeptSnapped}

-- it can be settled by the pass that took the snapshot
pub planned-here : (rules : Rules) (old new : Known Event Rules) (snapshot : Snapshot) (change : Change) (planned : CorePlannedView)
    → AfterWaiting (λ one other. KeptSnapped rules one other snapshot) old new → IsCorePlan snapshot change planned
    → IsKeptPlanIn rules new.view.seen planned
planned-here rules old new snapshot change planned taken plan = record {
  front = new.view.seen;
  begins = ([], append-nil new.view.seen);
  is = plan.snapshot_is ∙ taken.made.is;
}
