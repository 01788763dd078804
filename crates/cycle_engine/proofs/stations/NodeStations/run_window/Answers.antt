use Rattle.std.proofs.Common.{[], ◌∷◌, sym, subst}
use Rattle.std.proofs.lemmas.List.Elements.{All-head}
use Rattle.node_model.specs.Node.{IsNode}
use Rattle.cycle_engine.specs.Nodes.{heard_by}
use Rattle.cycle_engine.specs.Stations.{AreNodes, AreStations}
use Rattle.cycle_engine.specs.SyncWindow.{nodes_alone}
use Rattle.cycle_engine.proofs.Along.{told-heard}
use Rattle.cycle_engine.proofs.NodesApart.{AreNodes-told, AreStations-alone}
use Rattle.cycle_engine.proofs.stations.NodeStations.run_window.Goals as goal

pub invariant_of-self : goal.invariant_of-self
invariant_of-self c =
    let layout = c.self.inside.layout in
    let before = c.self.inside.node.state ∷ [] in
    let sent = c.run_window.ensures.sent in
    let told : AreNodes layout (heard_by sent.frames before)
    = subst (AreNodes layout) (told-heard sent.frames (nodes_alone layout before))
    (AreNodes-told layout sent.frames (nodes_alone layout before) sent.no_trigger c.self.invariant.nodes) in
    subst (λ nodes. AreStations (nodes_alone layout nodes)) (sym sent.heard) (AreStations-alone layout (heard_by sent.frames before) told)

pub run_window-requires-clause-node : goal.run_window-requires-clause-node
run_window-requires-clause-node c = All-head IsNode c.self.inside.node.state [] c.self.invariant.nodes.are
