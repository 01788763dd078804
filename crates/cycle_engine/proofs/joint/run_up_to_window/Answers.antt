use Rattle.std.proofs.Common.{◌≡◌, ◌*◌, ◌∷◌, [], refl, sym, ap, ◌∙◌, subst}
use Rattle.cycle_layout.specs.Layout.{IsLayout, sync_start}
use Rattle.trigger_kind.specs.declared.Triggers.{Triggers}
use Rattle.trigger_codec.specs.Bytes.{frames_left, later_frames, trigger_frame, triggers_with}
use Rattle.node_model.specs.Node.{NodeState}
use Rattle.cycle_engine.specs.Stations.{AreDueTriggers, StationsView, announced, due_from, stationed}
use Rattle.cycle_engine.specs.SyncWindow.{IsBeforeWindow}
use Rattle.cycle_engine.proofs.Along.{told-layout}
use Rattle.cycle_engine.proofs.NodesApart.{AreDue-triggers}
use Rattle.cycle_engine.proofs.One.{one_alone}
use Rattle.cycle_engine.proofs.OneCycle.{announced-same}
use Rattle.cycle_engine.proofs.TwoParts.{before-window}
use Rattle.cycle_engine.proofs.joint.run_up_to_window.Goals as goal

pub announce-requires-clause-due : goal.announce-requires-clause-due
announce-requires-clause-due c =
    let order = c.args.order.now in
    let layout = c.layout.result.now in
    let triggers : frames_left c.encode_all-frames_due.result ≡ triggers_with layout.slots order.cycle order.l order.mask =
    c.encode_all-frames_due.ensures.frames ∙ ap (λ (t : Triggers). trigger_frame order.cycle order.l order.mask ∷ later_frames t order.cycle order.mask) c.triggers.ensures.kind in
    subst (λ l. AreDueTriggers l (due_from (order.cycle * c.from.result) (frames_left c.encode_all-frames_due.result))) c.layout.ensures.layout
    (subst (λ fs. AreDueTriggers layout (due_from (order.cycle * c.from.result) fs)) (sym triggers)
    (AreDue-triggers layout (order.cycle * c.from.result) order.cycle order.l order.mask))

pub returns-clause-layout : goal.returns-clause-layout
returns-clause-layout c =
    let ran = c.run_until.ensures.ran in
    ap (λ s. s.layout) ran.told_of ∙ told-layout ran.frames (stationed c.announce.new.self) ∙ ap (λ v. v.layout) c.announce.ensures.announced

pub returns-clause-before_window : goal.returns-clause-before_window
returns-clause-before_window c =
    let order = c.args.order.now in
    let layout = c.args.stations.now.layout in
    let nodes = c.args.stations.now.node.state ∷ [] in
    let length : c.from.result ≡ layout.cycle = c.from.ensures ∙ c.cycle.ensures.value ∙ ap (λ l. l.cycle) c.layout.ensures.layout in
    let start : order.cycle * c.from.result ≡ order.cycle * layout.cycle = ap (λ n. order.cycle * n) length in
    let window : c.sync_start-window.result ≡ sync_start layout order.cycle order.l =
    c.sync_start-window.ensures.value ∙ ap (λ l. sync_start l order.cycle order.l) c.layout.ensures.layout in
    let triggers : frames_left c.encode_all-frames_due.result ≡ triggers_with layout.slots order.cycle order.l order.mask =
    c.encode_all-frames_due.ensures.frames ∙ ap (λ (t : Triggers). trigger_frame order.cycle order.l order.mask ∷ later_frames t order.cycle order.mask) c.triggers.ensures.kind
    ∙ ap (λ l. triggers_with l.slots order.cycle order.l order.mask) c.layout.ensures.layout in
    let before : stationed c.announce.new.self ≡ announced layout (order.cycle * layout.cycle) (triggers_with layout.slots order.cycle order.l order.mask) nodes =
    ap stationed c.announce.ensures.announced
    ∙ announced-same layout layout _ _ _ _ nodes nodes refl start triggers refl in
    let is_layout : IsLayout layout = subst IsLayout c.layout.ensures.layout c.is_in_range.ensures.known in
    subst (λ from. IsBeforeWindow layout order.cycle order.l order.mask nodes (c.run_until.new.stations.node.state ∷ []) c.run_until.new.out.items from) (sym c.max.ensures)
    (before-window layout order.cycle order.l order.mask is_layout
    c.requires.cycle c.requires.window c.requires.slots nodes c.are_known.ensures.known (one_alone (λ (node : NodeState). node.next ≡ order.cycle) c.args.stations.now.node.state c.requires.next)
    (stationed c.announce.new.self) (stationed c.run_until.new.stations) _ _ _ _ _ before start window c.requires.empty c.run_until.ensures.ran)

pub returns-clause-spare : goal.returns-clause-spare
returns-clause-spare c = c.run_until.ensures.fixed ∙ ap (λ (v : StationsView). v.node.spare) c.announce.ensures.announced
