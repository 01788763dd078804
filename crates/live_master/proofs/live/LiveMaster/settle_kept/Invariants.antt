use Rattle.std.proofs.Common.{◌≡◌}
use Rattle.turn_lock.specs.Passes.{IsOfLock}
use Rattle.live_master.specs.Calls.{Waited}
use Rattle.live_master.specs.Kept.{IsKeptPlanIn}
use Rattle.live_master.proofs.live.LiveMaster.settle_kept.Given as goal

abbrev pub invariant-loop : goal.invariant-loop
invariant-loop g l = record {
  of : IsOfLock l.self l.pass;
  waited : Waited l.initial.pass l.pass;
  same : l.plan ≡ l.initial.plan;
  planned : IsKeptPlanIn l.self.fixed l.pass.view.seen l.plan;
}
