use Rattle.std.proofs.Common.{subst, arith}
use Rattle.async_window.specs.Mailbox.{IsMail}
use Rattle.node_model.specs.Node.{NodeView}
use Rattle.node_model.proofs.Offers.{offered-slot}
use Rattle.node_model.proofs.node.Node.slot_frame.Goals as goal

pub overflow_sub-slot : goal.overflow_sub-slot
overflow_sub-slot c =
    let mail = subst (λ (v : NodeView). IsMail v.state.mail) c.self.view_is c.self.invariant.node.mail in
    (offered-slot c.args.self.now.state c.args.at c.args.id mail c.requires.offered c.requires.synchronous).from

pub due_frame-requires : goal.due_frame-requires
due_frame-requires c =
    let mail = subst (λ (v : NodeView). IsMail v.state.mail) c.self.view_is c.self.invariant.node.mail in
    let slot = offered-slot c.args.self.now.state c.args.at c.args.id mail c.requires.offered c.requires.synchronous in
    record { slot = omega (arith, slot.below, slot.from); due = slot.due }

pub returns : goal.returns
returns c = grind (arith, offered-slot)
