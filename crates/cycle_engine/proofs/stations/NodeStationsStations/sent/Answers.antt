use Rattle.std.proofs.Common.{◌≡◌, ◌^◌, ◌<◌, [], ◌∷◌, sym, ap, ◌∙◌, subst}
use Rattle.std.proofs.lemmas.List.Elements.{All-head}
use Rattle.bus_line.specs.Stations.{IsSending}
use Rattle.trigger_kind.specs.Kind.{opening_identifier}
use Rattle.node_model.specs.Node.{NodeState}
use Rattle.cycle_engine.specs.Stations.{AreStations, all_hear, cycle_line, due_list, stationed, triggers_after}
use Rattle.cycle_engine.proofs.NodesApart.{AreStations-told, can-hear}
use Rattle.cycle_engine.proofs.stations.NodeStationsStations.sent.Goals as goal

pub hear-requires : goal.hear-requires
hear-requires c =
    let sending = subst (λ view. IsSending cycle_line (stationed view) c.args.sent.now) (sym c.self.view_is) c.requires.sending in
    let Hears : NodeState → Type 0 = λ node. c.args.sent.now.frame.identifier ≡ opening_identifier node.layout.slots → node.next < 2 ^ 42 in
    record {
      cycle = All-head Hears c.self.inside.node.state []
          (can-hear c.self.inside.layout (due_list c.self.inside.due) (c.self.inside.node.state ∷ []) c.args.sent.now sending.offered.contends c.self.invariant);
    }

pub invariant_of-self : goal.invariant_of-self
invariant_of-self c =
    let sent = c.args.sent.now in
    let layout = c.self.inside.layout in
    let before = c.self.inside.node.state ∷ [] in
    let triggers = due_list c.self.inside.due in
    let sending = subst (λ view. IsSending cycle_line (stationed view) sent) (sym c.self.view_is) c.requires.sending in
    let left : due_list c.take_due.new.due ≡ triggers_after sent.frame.identifier triggers =
    c.take_due.ensures.left ∙ ap (λ id. triggers_after id triggers) c.id.ensures.value in
    subst (λ state. AreStations (record { layout = layout; triggers = due_list c.take_due.new.due; nodes = state ∷ [] })) (sym c.hear.ensures.heard)
    (subst (λ ts. AreStations (record { layout = layout; triggers = ts; nodes = all_hear before sent })) (sym left)
    (AreStations-told layout triggers before sent sending.offered.contends c.self.invariant))
