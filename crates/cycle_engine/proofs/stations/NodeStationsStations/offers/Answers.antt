use Rattle.std.proofs.Common.{◌≤◌, ◌++◌, [], ◌∷◌, All, sym, ap, ◌∙◌, subst}
use Rattle.std.specs.List.{cons_option}
use Rattle.arbitration.specs.Arbitration.{AreDistinct}
use Rattle.cycle_engine.specs.Stations.{due_list, offered_trigger}
use Rattle.cycle_engine.proofs.NodesApart.{offers-distinct}
use Rattle.cycle_engine.proofs.stations.NodeStationsStations.offers.Goals as goal

pub push_offer-requires-clause-distinct : goal.push_offer-requires-clause-distinct
push_offer-requires-clause-distinct c =
    let triggers = due_list c.self.inside.due in
    let both = offers-distinct (record { layout = c.self.inside.layout; triggers = triggers; nodes = c.self.inside.node.state ∷ [] }) c.args.at c.self.invariant in
    let all = ap (λ ids. ids ++ cons_option c.offer.result []) c.push_trigger.ensures.pushed
    ∙ ap (λ o. offered_trigger triggers c.args.at ++ cons_option o []) c.offer.ensures.offer in
    subst AreDistinct (sym all) both.0

pub returns-clause-range : goal.returns-clause-range
returns-clause-range c =
    let triggers = due_list c.self.inside.due in
    let both = offers-distinct (record { layout = c.self.inside.layout; triggers = triggers; nodes = c.self.inside.node.state ∷ [] }) c.args.at c.self.invariant in
    let all = c.push_offer.ensures.pushed ∙ ap (λ ids. ids ++ cons_option c.offer.result []) c.push_trigger.ensures.pushed
    ∙ ap (λ o. offered_trigger triggers c.args.at ++ cons_option o []) c.offer.ensures.offer in
    subst (All (λ id. id ≤ 0x7EF)) (sym all) both.1
