use Rattle.std.proofs.Common.{◌||◌, ap, ◌∙◌}
use Rattle.node_model.specs.Window.{is_due_slot}
use Rattle.cycle_engine.proofs.One.{due-alone}
use Rattle.cycle_engine.proofs.sync_window.due_slots.Goals as goal

pub returns : goal.returns
returns c = record {
  slots = λ slot within.
      c.with_due_slots.ensures.slots slot within
      ∙ ap (λ b. b || is_due_slot c.args.node.now.state slot) (c.empty.ensures.slots slot)
      ∙ due-alone c.args.node.now.state slot;
}
