use Rattle.std.proofs.Common.{◌<◌, ◌^◌}
use Rattle.turn_lock.specs.Passes.{IsOfLock}
use Rattle.master_core.specs.History.{next_of}
use Rattle.live_master.specs.Calls.{Waited}
use Rattle.live_master.proofs.live.LiveMaster.open_within.Given as goal

abbrev pub invariant-loop : goal.invariant-loop
invariant-loop g l = record {
  of : IsOfLock l.self l.pass;
  waited : Waited l.initial.pass l.pass;
  cycles : next_of l.pass.view.mine < 2 ^ 41;
}
