use Rattle.std.proofs.Common.{[], ◌∷◌, map, sym, subst}
use Rattle.node_model.specs.Node.{NodeState, with_node}
use Rattle.node_model.proofs.Shared.{with_node-well_placed}
use Rattle.cycle_engine.specs.Stations.{AreStations, due_list}
use Rattle.cycle_engine.proofs.NodesApart.{AreStations-learning}
use Rattle.cycle_engine.proofs.stations.NodeStations.learn.Goals as goal

pub invariant_of-self : goal.invariant_of-self
invariant_of-self c =
    let placed = c.args.placed.now in
    let triggers = due_list c.self.inside.due in
    let node : NodeState = c.self.inside.node.state in
    subst (λ state. AreStations (record { layout = c.self.inside.layout; triggers = triggers; nodes = state ∷ [] })) (sym c.learn_all.ensures.learnt)
    (AreStations-learning (record { layout = c.self.inside.layout; triggers = triggers; nodes = node ∷ [] }) (map (with_node node.number) placed)
    (with_node-well_placed node.number placed c.requires.well_placed) c.self.invariant)
