use Rattle.std.proofs.Common.{option_map, ◌∙◌}
use Rattle.node_model.specs.Node.{NodeState}
use Rattle.node_model.specs.Kept.{opened_of}
use Rattle.node_model.proofs.DueBehind.{small-opened}
use Rattle.node_model.proofs.HeardSlots.{heard-slots, mark-sent}
use Rattle.node_model.proofs.node.Node.hear_slots.Goals as goal

pub returns-clause-heard : goal.returns-clause-heard
returns-clause-heard c =
    let was = c.self.inside.opened in
    let before : NodeState = record {
      number = c.self.inside.number;
      layout = c.self.inside.layout;
      entries = c.self.inside.entries.items;
      mail = c.self.inside.mailboxes;
      opened = option_map opened_of was;
      next = c.self.inside.next;
      frames = c.self.inside.frames;
      noted = c.self.inside.noted;
    } in
    let marks = c.mark_slots.ensures.opened
    ∙ mark-sent before.entries c.self.inside.own c.args.sent c.common-own.result c.args.frames.now (option_map opened_of was)
    c.self.invariant.own_slots c.requires.slots c.common-own.ensures.slots (small-opened was c.mark_slots.ensures.known) in
    rw (← c.self.view_is)
    (heard-slots before c.args.frames.now c.saturating_add-self-inside.result (option_map opened_of c.mark_slots.new.opened)
    c.self.invariant.node.frames c.self.invariant.node.mail.least c.requires.slots.all c.saturating_add-self-inside.ensures marks)
