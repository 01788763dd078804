use Rattle.std.proofs.Common.{map, sym, ap, ◌∙◌, subst}
use Rattle.std.specs.Prelude.{IfSome}
use Rattle.requirement_table.specs.Table.{IsWellPlaced}
use Rattle.node_model.specs.Node.{NodeState, entries_of, with_node}
use Rattle.cycle_engine.proofs.JointEntries.{joint-own}
use Rattle.cycle_engine.proofs.nodes.learn.Goals as goal

pub learn-requires-clause-well_placed : goal.learn-requires-clause-well_placed
learn-requires-clause-well_placed c =
    let well : IsWellPlaced c.in-Some.list = subst (λ o. IfSome o IsWellPlaced) c.in-Some.is c.requires.well_placed in
    subst IsWellPlaced (sym (c.as_slice-in-Some.ensures.value ∙ c.copy.ensures.placed ∙ c.as_slice.ensures.list)) well

pub returns-in-Some-clause-learnt : goal.returns-in-Some-clause-learnt
returns-in-Some-clause-learnt c =
    let node : NodeState = c.args.stations.now.node.state in
    let placed = c.copy.new.placed.items in
    c.learn.ensures.learnt
    ∙ ap (λ list. record node { entries = entries_of node.number (map (with_node node.number) list) }) c.as_slice-in-Some.ensures.value
    ∙ ap (λ n. record node { entries = entries_of n (map (with_node n) placed) }) c.requires.number
    ∙ ap (λ entries. record node { entries = entries }) (sym (joint-own placed))
