use Rattle.std.proofs.Common.{ap, ◌∙◌}
use Rattle.cycle_engine.specs.Nodes.{NodesView, left_in, states_of}
use Rattle.cycle_engine.proofs.Left.{left-parts}
use Rattle.cycle_engine.proofs.nodes.Nodes.left.Goals as goal

pub returns : goal.returns
returns c = record {
  left = c.left.ensures.left
      ∙ left-parts c.self.inside.owners.items c.self.inside.placed.items _ c.self.inside.count c.self.inside.stations.node.state c.self.invariant
      ∙ ap (λ (v : NodesView). left_in (states_of v.nodes)) c.self.view_is;
}
