use Rattle.turn_lock.specs.Passes.{IsOfLock}
use Rattle.live_master.specs.Calls.{Waited}
use Rattle.live_master.proofs.live.LiveMaster.kept_snapshot.Given as goal

abbrev pub invariant-loop : goal.invariant-loop
invariant-loop g l = record {
  of : IsOfLock l.self l.pass;
  waited : Waited l.initial.pass l.pass;
}
