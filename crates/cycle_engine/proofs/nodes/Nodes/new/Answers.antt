use Rattle.std.proofs.Common.{◌≡◌, [], List, min, vec_capacity, rules, sym, ap, ◌∙◌, subst}
use Rattle.async_window.specs.Owners.{AreOwners}
use Rattle.node_model.specs.Node.{NodeState, fresh_node}
use Rattle.cycle_engine.specs.Joint.{joint_owners, parts_of}
use Rattle.cycle_engine.specs.Nodes.{states_of}
use Rattle.cycle_engine.specs.Stations.{StationsView}
use Rattle.cycle_engine.proofs.FreshNodes.{IsBus-fresh, IsNumber-below, fresh-at, made-count, made-each, made-joint}
use Rattle.cycle_engine.proofs.JointCycle.{joint-are_owners}
use Rattle.cycle_engine.proofs.One.{AreNodes-one}
use Rattle.cycle_engine.proofs.nodes.Nodes.new.Goals as goal

pub new-requires-clause-owners : goal.new-requires-clause-owners
new-requires-clause-owners c =
    subst AreOwners (sym (c.as_slice.ensures.value ∙ c.in_ok-joint.ensures.owners)) (joint-are_owners c.args.owners.now c.requires.owners)

pub new-requires-2 : goal.new-requires-2
new-requires-2 c = record {
  nodes = AreNodes-one c.args.layout c.in_ok-node.node.state c.in_ok-node.ensures.known (ap (λ (node : NodeState). node.layout) c.in_ok-node.ensures.fresh);
}

pub returns : goal.returns
returns c =
    let layout = c.args.layout in
    let owners = c.args.owners.now in
    let requests = c.args.requests.now in
    let count = c.args.nodes in
    let kept : c.in_ok-kept.kept.items ≡ owners = c.in_ok-kept.ensures.items_if_clones_equal (search rules) in
    let joint : c.new-2.result.node.state ≡ fresh_node layout (joint_owners owners) requests 0 =
    ap (λ (v : StationsView). v.node.state) c.new-2.ensures.stations ∙ c.in_ok-node.ensures.fresh
    ∙ ap (λ os. fresh_node layout os requests 0) (c.as_slice.ensures.value ∙ c.in_ok-joint.ensures.owners) in
    let spare = min c.new-2.result.node.spare (vec_capacity c.new-3.result) in
    let nodes : List NodeState = states_of (parts_of c.in_ok-kept.kept.items c.new-3.result.items spare count c.new-2.result.node.state) in
    let long = made-count c.in_ok-kept.kept.items c.new-3.result.items spare count c.new-2.result.node.state in
    let each = made-each owners requests (λ ids id. c.unsent_laws.ensures.among ids requests [] id) layout spare count c.in_ok-kept.kept.items c.new-3.result.items
    c.new-2.result.node.state kept c.new-3.ensures.items joint in
    record {
      layout = ap (λ (v : StationsView). v.layout) c.new-2.ensures.stations;
      count = long;
      each = λ number within. fresh-at layout owners requests nodes count long each number within;
      numbers = λ number within. IsNumber-below layout owners requests nodes count long each number within;
      bus = IsBus-fresh layout owners requests nodes count long each c.requires.owners c.requires.numbers c.requires.owned;
    }

pub invariant_of-result : goal.invariant_of-result
invariant_of-result c =
    let layout = c.args.layout in
    let owners = c.args.owners.now in
    let requests = c.args.requests.now in
    let kept : c.in_ok-kept.kept.items ≡ owners = c.in_ok-kept.ensures.items_if_clones_equal (search rules) in
    let joint : c.new-2.result.node.state ≡ fresh_node layout (joint_owners owners) requests 0 =
    ap (λ (v : StationsView). v.node.state) c.new-2.ensures.stations ∙ c.in_ok-node.ensures.fresh
    ∙ ap (λ os. fresh_node layout os requests 0) (c.as_slice.ensures.value ∙ c.in_ok-joint.ensures.owners) in
    made-joint owners requests (λ ids id. c.unsent_laws.ensures.among ids requests [] id) layout c.args.nodes c.in_ok-kept.kept.items c.new-3.result.items
    c.new-2.result.node.state kept c.new-3.ensures.items joint c.requires.some c.requires.few c.requires.owners c.requires.numbers
