use Rattle.cycle_engine.proofs.LiveCycle.{live-bus, live-nodes, live-order, live-were}
use Rattle.cycle_engine.proofs.laws.live_nodes.Goals as goal

pub returns : goal.returns
returns c = record {
  each = λ sends layout owners requests placed past order nodes sent later known sorted are before cycle width mask triggered were follows. record {
    follows = live-order sends layout owners requests placed past order nodes sent later known sorted are before cycle width mask triggered were follows;
    bus = live-bus sends layout owners requests placed past order nodes sent later known sorted are before cycle width mask triggered were follows;
    are = live-nodes sends layout owners requests placed past order nodes sent later known sorted are before cycle width mask triggered were follows;
    were = live-were sends layout owners requests placed past order nodes sent later known sorted are before cycle width mask triggered were follows;
  };
}
