use Rattle.std.proofs.Common.{◌≡◌}
use Rattle.cycle_engine.specs.Nodes.{HaveSpare, states_of}
use Rattle.master_core.specs.History.{next_of}
use Rattle.live_master.specs.Passes.{IsPassOf}
use Rattle.live_run.specs.Running.{HasSeen, KeepsPasses}
use Rattle.live_run.proofs.dispatching.open_next.Given as goal

-- so far the nodes had too little room: nothing was opened, and they took memory alone
abbrev pub invariant-loop : goal.invariant-loop
invariant-loop g l = record {
  standing : IsPassOf l.shared l.pass;
  next : next_of l.pass.view.mine ≡ next_of l.initial.pass.view.mine;
  seen : HasSeen l.shared.fixed l.initial.pass.view.seen l.pass.view.seen;
  spare : HaveSpare l.entries l.nodes.nodes;
  layout : l.nodes.layout ≡ l.initial.nodes.layout;
  same : states_of l.nodes.nodes ≡ states_of l.initial.nodes.nodes;
  stays : KeepsPasses l.initial.pass.view l.pass.view;
}
