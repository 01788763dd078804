use Rattle.std.proofs.Common.{◌≡◌, ◌*◌, ◌+◌, ◌++◌, [], ◌∷◌, ap, arith, rules, sym, subst, ◌∙◌}
use Rattle.std.specs.Prelude.{fold}
use Rattle.std.proofs.Math.Nat.{add-mul}
use Rattle.std.proofs.lemmas.List.Elements.{All-head}
use Rattle.cycle_layout.specs.Layout.{IsLayout}
use Rattle.bus_line.specs.Stations.{offers_of}
use Rattle.trigger_codec.specs.Bytes.{triggers_with}
use Rattle.node_model.specs.Node.{IsNode, NodeState, after_hearing}
use Rattle.cycle_engine.specs.Nodes.{IsBus}
use Rattle.cycle_engine.specs.Stations.{announced, cycle_line}
use Rattle.cycle_engine.proofs.FewFrames.{few-frames}
use Rattle.cycle_engine.proofs.One.{one_alone}
use Rattle.cycle_engine.proofs.OneCycle.{IsRun, begins, cycle_next, cycle_runs, cycle_stands}
use Rattle.cycle_engine.proofs.joint.run_cycle.Goals as goal

pub returns : goal.returns
returns c =
    let order = c.args.order.now in
    let layout = c.args.stations.now.layout in
    let before : NodeState = c.args.stations.now.node.state in
    let nodes = before ∷ [] in
    let frames = c.run.new.frames.items in
    let are = c.are_known.ensures.known in
    let run : IsRun layout order nodes frames = record {
      is_layout = subst IsLayout (All-head (λ (node : NodeState). node.layout ≡ layout) before [] are.layouts) (All-head IsNode before [] are.are).layout;
      early = c.requires.cycle;
      window = c.requires.window;
      mask = c.requires.slots;
      are = are.are;
      layouts = are.layouts;
      next = one_alone (λ (node : NodeState). node.next ≡ order.cycle) before c.requires.next;
      runs = c.run.ensures.runs;
    } in
    let heard : c.run.new.stations.node.state ≡ fold after_hearing before frames = c.run.ensures.heard in
    let few = few-frames
    (offers_of cycle_line (announced layout (order.cycle * layout.cycle) (triggers_with layout.slots order.cycle order.l order.mask) nodes))
    [] (order.cycle * layout.cycle) ((order.cycle + 1) * layout.cycle) frames run.runs in
    record {
      layout = c.run.ensures.layout;
      heard = heard;
      next = ap (λ node. node.next) heard
          ∙ All-head (λ (node : NodeState). node.next ≡ order.cycle + 1) (fold after_hearing before frames) [] (cycle_next layout order nodes frames run);
      spare = c.run.ensures.spare;
      capacity = search rules;
      few = omega (arith, few, add-mul order.cycle 1 layout.cycle);
      opens = begins layout order nodes frames run;
      runs = cycle_runs layout order nodes frames run;
      stand = λ owners requests placed past is_before.
          subst (λ node. IsBus layout owners requests placed (past ++ frames) (order.cycle + 1) (node ∷ [])) (sym heard)
          (cycle_stands layout order nodes frames run owners requests placed past is_before);
    }
