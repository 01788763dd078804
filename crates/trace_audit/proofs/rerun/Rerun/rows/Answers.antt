use Rattle.std.proofs.Common.{◌∙◌, ap}
use Rattle.std.proofs.lemmas.Result.{IfOk-weaker}
use Rattle.bus_trace.specs.EventRows.{told_at}
use Rattle.trace_audit.proofs.rerun.Rerun.rows.Goals as goal

pub returns : goal.returns
returns c = record {
  rows = IfOk-weaker c.rows_of.result _ _ (λ rows are event ends.
      let self = c.args.self.now in
      are ∙ ap (λ e. told_at self.width e c.frames.result.now) (c.last_event.ensures.last event ends)
      ∙ ap (told_at self.width event) c.frames.ensures.list)
      c.rows_of.ensures.rows;
}
