use Rattle.std.proofs.Common.{◌≡◌, List, [], sym, ap, subst, ◌∙◌}
use Rattle.can_frame.specs.declared.data_frame.TimedFrame.{TimedFrame}
use Rattle.cycle_layout.specs.Layout.{CycleLayout}
use Rattle.requirement_table.specs.declared.entries.Placed.{Placed}
use Rattle.node_model.specs.Node.{NodeState}
use Rattle.cycle_engine.specs.Nodes.{NodesView, states_of}
use Rattle.sporadic_poll.specs.PolledNodes.{PolledView}
use Rattle.cycle_engine.specs.Joint.{known_by}
use Rattle.sporadic_poll.specs.Rides.{Riding}
use Rattle.sporadic_poll.proofs.PolledCycle.{CarriesBy, Ran, have-heard, plain-cycle}
use Rattle.sporadic_poll.proofs.polled_nodes.run_polled.Goals as goal
use Rattle.sporadic_poll.proofs.polled_nodes.run_polled.Goals.{After-drop-plain-inside-2}

-- what the nodes know after the cycle
placed : (c : After-drop-plain-inside-2) → c.nodes-3.inside.placed.items ≡ known_by c.args.order.now.learned c.args.nodes.now.placed
placed c =
    let order = c.args.order.now in
    ap (λ (v : PolledView). v.placed) c.nodes-3.view_is ∙ c.know.ensures.placed
    ∙ ap (λ o. known_by o c.nodes-2.inside.placed.items) c.in_ok-learned.ensures.same
    ∙ ap (λ p. known_by order.learned p) (ap (λ (v : PolledView). v.placed) c.nodes-2.view_is ∙ c.reserve_for.ensures.placed)

-- the cycle was run on the nodes as they were before
ran : (c : After-drop-plain-inside-2) → Ran c.args.order.now c.args.nodes.now.nodes.layout (states_of c.args.nodes.now.nodes.nodes)
    (states_of c.run_cycle_in.new.nodes.nodes) c.run_cycle_in.new.segment
ran c =
    let order = c.args.order.now in
    let old = c.args.nodes.now in
    let plain = c.run_cycle_in.new.segment in
    let after = states_of c.run_cycle_in.new.nodes.nodes in
    let before = c.nodes-2.inside.nodes in
    subst (λ (l : CycleLayout). Ran order l (states_of old.nodes.nodes) after plain)
    (ap (λ (v : PolledView). v.nodes.layout) c.nodes-2.view_is ∙ c.reserve_for.ensures.layout)
    (subst (λ (n : List NodeState). Ran order before.layout n after plain)
    (ap (λ (v : PolledView). states_of v.nodes.nodes) c.nodes-2.view_is ∙ c.reserve_for.ensures.same)
    (record {
      heard = c.run_cycle_in.ensures.heard;
      runs = λ placed past. c.run_cycle_in.ensures.runs [] [] placed past;
      stand = λ placed past. c.run_cycle_in.ensures.stand [] [] placed past;
    }))

-- the frames carry the requests of their instances
carries : (c : After-drop-plain-inside-2) → CarriesBy c.args.nodes.now.nodes.layout c.args.order.now
    (known_by c.args.order.now.learned c.args.nodes.now.placed) c.run_cycle_in.new.segment c.args.nodes.now.riding
    c.carry.new.self c.carry.new.out.items
carries c =
    let order = c.args.order.now in
    let old = c.args.nodes.now in
    let plain = c.run_cycle_in.new.segment in
    let riding : c.nodes-3.inside.rides ≡ old.riding =
    ap (λ (v : PolledView). v.riding) c.nodes-3.view_is ∙ c.know.ensures.riding ∙ ap (λ (v : PolledView). v.riding) c.nodes-2.view_is ∙ c.reserve_for.ensures.riding in
    let layout : c.layout.result.now ≡ old.nodes.layout = c.layout.ensures.layout ∙ ap (λ (v : PolledView). v.nodes.layout) c.nodes.view_is in
    let now = c.carry.new.self in
    let out = c.carry.new.out.items in
    subst (λ (r : Riding). CarriesBy old.nodes.layout order (known_by order.learned old.placed) plain r now out) riding
    (subst (λ (f : List TimedFrame). CarriesBy old.nodes.layout order (known_by order.learned old.placed) f c.nodes-3.inside.rides now out) c.frames.ensures.list
    (subst (λ (p : List Placed). CarriesBy old.nodes.layout order p c.frames.result.now c.nodes-3.inside.rides now out) (c.as_slice.ensures.value ∙ placed c)
    (subst (λ (l : CycleLayout). CarriesBy l order c.as_slice.result.now c.frames.result.now c.nodes-3.inside.rides now out) layout
    (record { taken = c.carry.ensures.taken; fates = c.carry.ensures.fates; frames = c.carry.ensures.frames }))))

pub returns-clause-heard : goal.returns-clause-heard
returns-clause-heard c =
    let order = c.args.order.now in
    let old = c.args.nodes.now in
    let plain = c.run_cycle_in.new.segment in
    let nodes : c.run_cycle_in.new.nodes ≡ c.nodes-3.inside.nodes = sym (ap (λ (v : PolledView). v.nodes) c.nodes-3.view_is ∙ c.know.ensures.nodes) in
    have-heard order old (record { nodes = c.nodes-3.inside.nodes; riding = c.carry.new.self; placed = c.nodes-3.inside.placed.items }) plain
    (subst (λ (n : NodesView). Ran order old.nodes.layout (states_of old.nodes.nodes) (states_of n.nodes) plain) nodes (ran c)) (placed c)

pub returns-clause-taken : goal.returns-clause-taken
returns-clause-taken c = λ lengths carried rides ridden. (carries c).taken c.args.order.now.mask lengths carried rides ridden

pub returns-clause-runs : goal.returns-clause-runs
returns-clause-runs c = λ sent past lengths carried stand rides ridden early.
    (carries c).frames c.args.order.now.mask lengths carried past rides ridden
    (plain-cycle c.args.order.now c.args.nodes.now (states_of c.run_cycle_in.new.nodes.nodes) c.run_cycle_in.new.segment sent
    c.requires.window (ran c) stand) early

pub returns-clause-fates : goal.returns-clause-fates
returns-clause-fates c = λ openings sent lengths carried stand rides ridden fates.
    (carries c).fates openings c.args.order.now.mask lengths carried rides ridden
    (plain-cycle c.args.order.now c.args.nodes.now (states_of c.run_cycle_in.new.nodes.nodes) c.run_cycle_in.new.segment sent
    c.requires.window (ran c) stand) fates
