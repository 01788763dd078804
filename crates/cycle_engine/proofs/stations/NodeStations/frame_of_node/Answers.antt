use Rattle.std.proofs.Common.{[], ◌∷◌, Contains, sym, subst, ◌∙◌, ap}
use Rattle.cycle_engine.specs.Stations.{StationsView, frame_by_nodes, offered_by_nodes}
use Rattle.cycle_engine.proofs.One.{frame-only, offers-only}
use Rattle.cycle_engine.proofs.stations.NodeStations.frame_of_node.Goals as goal

pub frame-requires-clause-offered : goal.frame-requires-clause-offered
frame-requires-clause-offered c =
    offers-only c.self.inside.node.state c.args.at c.args.id
    (subst (λ (v : StationsView). Contains (offered_by_nodes (v.node.state ∷ []) c.args.at) c.args.id) (sym c.self.view_is) c.requires.offered)

pub returns-clause-frame : goal.returns-clause-frame
returns-clause-frame c =
    let offers = offers-only c.self.inside.node.state c.args.at c.args.id
    (subst (λ (v : StationsView). Contains (offered_by_nodes (v.node.state ∷ []) c.args.at) c.args.id) (sym c.self.view_is) c.requires.offered) in
    c.frame.ensures.frame ∙ frame-only c.self.inside.node.state c.args.at c.args.id offers
    ∙ ap (λ (v : StationsView). frame_by_nodes (v.node.state ∷ []) c.args.at c.args.id) c.self.view_is
