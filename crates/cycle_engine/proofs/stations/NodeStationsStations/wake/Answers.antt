use Rattle.std.proofs.Common.{[], ◌∷◌, ◌++◌, subst, sym}
use Rattle.bus_line.specs.Stations.{IsWake}
use Rattle.cycle_engine.specs.Stations.{StationsView, due_list, offered_by_nodes, offered_trigger}
use Rattle.cycle_engine.proofs.Waking.{IsWake-one}
use Rattle.cycle_engine.proofs.stations.NodeStationsStations.wake.Goals as goal

pub returns : goal.returns
returns c =
    let triggers = due_list c.self.inside.due in
    let node = c.self.inside.node.state in
    record {
      wake = subst (λ (v : StationsView). IsWake (λ later. offered_trigger v.triggers later ++ offered_by_nodes (v.node.state ∷ []) later) c.args.at c.sooner.result) c.self.view_is
          (subst (IsWake (λ later. offered_trigger triggers later ++ offered_by_nodes (node ∷ []) later) c.args.at) (sym c.sooner.ensures.sooner)
          (c.sooner_wake.ensures.together (offered_trigger triggers) (offered_by_nodes (node ∷ [])) c.args.at c.wake_of_trigger.result c.next_offer.result
          c.wake_of_trigger.ensures.wake (IsWake-one node c.args.at c.next_offer.result c.next_offer.ensures.next)));
    }
