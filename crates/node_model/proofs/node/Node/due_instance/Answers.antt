-- Of a slot that is due the instance is known.
use Rattle.std.proofs.Common.{◌≡◌, true, sym, subst}
use Rattle.node_model.specs.Node.{NodeView}
use Rattle.node_model.specs.Window.{is_due_slot}
use Rattle.node_model.proofs.DueSlots.{due-known}
use Rattle.node_model.proofs.Ready.{unknown}
use Rattle.node_model.proofs.node.Node.due_instance.Goals as goal

pub returns-clause-bytes : goal.returns-clause-bytes
returns-clause-bytes c =
    let i = c.self.inside in
    let due = subst (λ (v : NodeView). is_due_slot v.state c.args.slot ≡ true) (sym c.self.view_is) c.requires.due in
    let known = due-known i.entries.items i.remaining.entries.items i.remaining.ready unknown i.opened c.args.slot i.next c.requires.slot
    c.self.invariant.due c.self.invariant.instances_due c.self.invariant.instances c.self.invariant.ready due in
    rw (← c.self.view_is, c.from.ensures) known.0

pub returns-clause-few : goal.returns-clause-few
returns-clause-few c =
    let i = c.self.inside in
    let due = subst (λ (v : NodeView). is_due_slot v.state c.args.slot ≡ true) (sym c.self.view_is) c.requires.due in
    let known = due-known i.entries.items i.remaining.entries.items i.remaining.ready unknown i.opened c.args.slot i.next c.requires.slot
    c.self.invariant.due c.self.invariant.instances_due c.self.invariant.instances c.self.invariant.ready due in
    rw c.from.ensures known.1
