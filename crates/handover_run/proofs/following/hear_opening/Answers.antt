use Rattle.std.proofs.Common.{ap, sym, ◌∙◌}
use Rattle.trigger_kind.specs.Kind.{triggers_of}
use Rattle.handover_run.proofs.Due.{two-due}
use Rattle.handover_run.proofs.following.hear_opening.Goals as goal

pub only_memory-requires-in-Two : goal.only_memory-requires-in-Two
only_memory-requires-in-Two c = record {
  memory = c.trigger-in-Two.ensures.due
      (two-due c.args.standby.now c.args.frames.now c.index-frames-0-in-Two.result c.index-frames-1.result
      (ap triggers_of (sym c.requires.slots) ∙ sym c.of.ensures.kind ∙ c.in-Two.is) c.requires.due);
}
