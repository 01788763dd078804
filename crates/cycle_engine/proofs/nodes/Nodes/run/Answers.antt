use Rattle.std.proofs.Common.{◌≡◌, ◌*◌, ◌+◌, ◌++◌, ◌∷◌, [], ◌<◌, ◌≤◌, ◌/◌, ◌^◌, All, map, min, length, vec_capacity, sym, ap, ◌∙◌, subst, arith}
use Rattle.std.specs.List.{range_with_len}
use Rattle.std.proofs.lemmas.List.Elements.{All-head}
use Rattle.requirement_table.specs.Instance.{bytes_of}
use Rattle.bus_line.specs.Trace.{Follows}
use Rattle.profile.specs.Limits.{shortest_frame}
use Rattle.node_model.specs.Node.{NodeState}
use Rattle.cycle_layout.specs.Layout.{CycleLayout, IsLayout}
use Rattle.cycle_engine.specs.Joint.{BeginsWithTriggers, joint_entries, joint_owners, part_of, parts_of}
use Rattle.cycle_engine.specs.Nodes.{CanLearn, IsBefore, IsBus, KeepSpare, NodesView, heard_by, learnt_by, opening_of, states_of}
use Rattle.cycle_engine.specs.Offered.{offered_in}
use Rattle.cycle_engine.proofs.JointRun.{HasRun, all-heard, offered-alike, stand-behind, stands-before, stays-by}
use Rattle.cycle_engine.proofs.Parts.{can-learn, keep-spare, part-next, parts-next, shorter, states-parts}
use Rattle.cycle_engine.proofs.nodes.Nodes.run.Goals as goal

pub learn-requires : goal.learn-requires
learn-requires c =
    let inside = c.self.inside in
    let learned = c.args.order.now.learned in
    let spare = min inside.stations.node.spare (vec_capacity inside.placed) in
    let short = can-learn inside.owners.items inside.placed.items spare inside.count inside.stations.node.state learned c.self.invariant.some
    (subst (λ (v : NodesView). CanLearn learned v.nodes) (sym c.self.view_is) c.requires.spare) in
    record {
      number = c.self.invariant.number;
      entries = c.self.invariant.entries;
      well_placed = c.requires.learned;
      room = shorter learned spare (vec_capacity inside.placed) (omega arith) short;
      spare = shorter learned spare inside.stations.node.spare (omega arith) short;
    }

pub run_cycle-requires : goal.run_cycle-requires
run_cycle-requires c =
    let inside = c.self.inside in
    let order = c.args.order.now in
    let spare = min inside.stations.node.spare (vec_capacity inside.placed) in
    let layout : c.learn.new.stations.layout ≡ c.args.self.now.layout = c.learn.ensures.layout ∙ ap (λ v. v.layout) c.self.view_is in
    let next = part-next inside.owners.items inside.placed.items spare inside.count inside.stations.node.state order.cycle c.self.invariant.some
    (subst (λ (v : NodesView). All (λ node. node.next ≡ order.cycle) (states_of v.nodes)) (sym c.self.view_is) c.requires.next) in
    record {
      cycle = c.requires.cycle;
      next = ap (λ (node : NodeState). node.next) c.learn.ensures.learnt ∙ next;
      window = subst (λ (l : CycleLayout). order.l ≤ l.window) (sym layout) c.requires.window;
      slots = subst (λ (l : CycleLayout). order.mask < 2 ^ l.slots) (sym layout) c.requires.slots;
      room = subst (λ (l : CycleLayout). l.cycle / shortest_frame + 1 ≤ vec_capacity c.args.frames.now) (sym layout) c.requires.room;
    }

pub returns : goal.returns
returns c =
    let inside = c.self.inside in
    let order = c.args.order.now in
    let learned = order.learned in
    let owners = inside.owners.items in
    let placed = inside.placed.items in
    let count = inside.count in
    let joint : NodeState = inside.stations.node.state in
    let spare = min inside.stations.node.spare (vec_capacity inside.placed) in
    let known = c.learn.new.placed.items in
    let learnt : NodeState = c.learn.new.stations.node.state in
    let after : NodeState = c.run_cycle.new.stations.node.state in
    let frames = c.run_cycle.new.frames.items in
    let more = min c.run_cycle.new.stations.node.spare (vec_capacity c.learn.new.placed) in
    let numbers = range_with_len 0 count in
    let layout = c.args.self.now.layout in
    let same : inside.stations.layout ≡ layout = ap (λ (v : NodesView). v.layout) c.self.view_is in
    let learnt_layout : c.learn.new.stations.layout ≡ layout = c.learn.ensures.layout ∙ same in
    let next = part-next owners placed spare count joint order.cycle c.self.invariant.some
    (subst (λ (v : NodesView). All (λ node. node.next ≡ order.cycle) (states_of v.nodes)) (sym c.self.view_is) c.requires.next) in
    let are = c.are_known.ensures.known in
    let run : HasRun owners placed count learned layout order joint known learnt after frames = record {
      is = c.self.invariant;
      well = c.requires.learned;
      is_layout = subst IsLayout (c.layout.ensures.layout ∙ same) c.is_in_range.ensures.known;
      same_layout = All-head (λ (node : NodeState). node.layout ≡ inside.stations.layout) joint [] are.layouts ∙ same;
      next = next;
      window = c.requires.window;
      slots = c.requires.slots;
      known_is = c.learn.ensures.placed;
      learnt_is = c.learn.ensures.learnt;
      heard = c.run_cycle.ensures.heard;
      begins = subst (λ l. BeginsWithTriggers l order frames) learnt_layout c.run_cycle.ensures.opens;
    } in
    let taken = c.taking_laws.ensures.unsent in
    let before : states_of c.args.self.now.nodes ≡ map (part_of owners placed joint) numbers =
    ap (λ (v : NodesView). states_of v.nodes) (sym c.self.view_is) ∙ states-parts owners placed spare joint numbers in
    let now = states-parts owners known more after numbers in
    record {
      layout = c.run_cycle.ensures.layout ∙ learnt_layout;
      heard = now ∙ all-heard taken owners placed count learned layout order joint known learnt after frames run c.sends_its_slots.ensures.opens numbers
          ∙ ap (λ nodes. heard_by frames (learnt_by learned nodes)) (sym before);
      next = parts-next owners known more count after (order.cycle + 1) c.run_cycle.ensures.next;
      spare = subst (λ (v : NodesView). KeepSpare v.nodes (parts_of owners known more count after)) c.self.view_is
          (keep-spare owners placed known spare more count joint after c.self.invariant.some
          (omega (arith, c.learn.ensures.spare, c.learn.ensures.capacity, c.run_cycle.ensures.spare)));
      capacity = c.run_cycle.ensures.capacity;
      few = subst (λ (l : CycleLayout). length frames ≤ l.cycle / shortest_frame + 1) learnt_layout c.run_cycle.ensures.few;
      runs = λ whose requests others past is_before.
          let is = subst (λ nodes. IsBefore layout whose requests others past order (learnt_by learned nodes)) before is_before in
          let stands = stands-before taken owners placed count learned layout order joint known learnt after frames run whose requests others past is in
          let follows = subst (λ l. IsBefore l (joint_owners owners) requests (joint_entries known) past order (learnt ∷ [])
          → Follows (offered_in bytes_of l requests (opening_of order (joint_entries known))) past (order.cycle * l.cycle) ((order.cycle + 1) * l.cycle) frames) learnt_layout
          (c.run_cycle.ensures.runs (joint_owners owners) requests (joint_entries known) past) stands in
          let same_offers = offered-alike taken owners placed count learned layout order joint known learnt after frames run whose requests others past is in
          c.same_along.ensures.along (bytes_of, layout, requests, opening_of order (joint_entries known)) (bytes_of, layout, requests, opening_of order others)
          past past (order.cycle * layout.cycle) ((order.cycle + 1) * layout.cycle) frames
          (λ front back at frame split free early. same_offers (past ++ front) at frame) follows;
      stand = λ whose requests others past is_before.
          let is = subst (λ nodes. IsBefore layout whose requests others past order (learnt_by learned nodes)) before is_before in
          let stands = stands-before taken owners placed count learned layout order joint known learnt after frames run whose requests others past is in
          let bus = subst (λ l. IsBefore l (joint_owners owners) requests (joint_entries known) past order (learnt ∷ [])
          → IsBus l (joint_owners owners) requests (joint_entries known) (past ++ frames) (order.cycle + 1) (after ∷ [])) learnt_layout
          (c.run_cycle.ensures.stand (joint_owners owners) requests (joint_entries known) past) stands in
          subst (IsBus layout whose requests others (past ++ frames) (order.cycle + 1)) (sym now)
          (stand-behind taken owners placed count learned layout order joint known learnt after frames run whose requests others past is
          (λ ids id. c.unsent_laws.ensures.among ids requests (past ++ frames) id) bus);
    }

pub invariant_of-self : goal.invariant_of-self
invariant_of-self c =
    let inside = c.self.inside in
    stays-by c.taking_laws.ensures.unsent inside.owners.items inside.placed.items inside.count inside.stations.node.state c.self.invariant
    c.args.order.now.learned c.requires.learned c.learn.new.placed.items c.learn.new.stations.node.state c.run_cycle.new.stations.node.state
    c.run_cycle.new.frames.items c.learn.ensures.placed c.learn.ensures.learnt c.run_cycle.ensures.heard
