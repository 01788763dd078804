use Rattle.std.proofs.Common.{◌≡◌}
use Rattle.cycle_engine.specs.Nodes.{HaveSpare, states_of}
use Rattle.master_core.specs.History.{next_of}
use Rattle.kept_run.specs.Setting.{Setting}
use Rattle.live_master.specs.Passes.{IsPassOf}
use Rattle.live_run.specs.Running.{CanDispatch, IsRunning, KeepsPasses}
use Rattle.live_run.specs.Left.{numbers_of}
use Rattle.live_run.proofs.dispatching.dispatch.Given as goal

abbrev pub invariant-loop : goal.invariant-loop
invariant-loop g l = record {
  can_run : CanDispatch l.shared l.pass.view.seen l.bus;
  running : (setting : Setting) → IsRunning setting l.shared l.initial.pass.view.seen l.initial.bus → IsRunning setting l.shared l.pass.view.seen l.bus;
  numbers : numbers_of (states_of l.bus.nodes.nodes) ≡ numbers_of (states_of l.initial.bus.nodes.nodes);
  next : next_of l.pass.view.mine ≡ l.counter;
  spare : HaveSpare l.room.entries l.bus.nodes.nodes;
  stays : KeepsPasses l.initial.pass.view l.pass.view;
  standing : IsPassOf l.shared l.pass;
}
