use Rattle.std.proofs.Common.{sym, ◌∙◌}
use Rattle.handover_run.proofs.handed.HandedRuns.opened.Goals as goal

pub returns : goal.returns
returns c = record {
  opened = λ setting whole trace is.
      c.next.ensures.next ∙ sym (c.one_core.ensures.next whole c.args.self.now.bus.master.history is.same_core);
}
