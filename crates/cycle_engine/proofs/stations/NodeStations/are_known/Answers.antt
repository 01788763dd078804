use Rattle.std.proofs.Common.{[], ◌∷◌, subst}
use Rattle.cycle_engine.specs.Stations.{AreNodes, StationsView}
use Rattle.cycle_engine.proofs.stations.NodeStations.are_known.Goals as goal

pub returns : goal.returns
returns c = record {
  known = subst (λ (v : StationsView). AreNodes v.layout (v.node.state ∷ [])) c.self.view_is c.self.invariant.nodes;
}
