use Rattle.std.proofs.Common.{subst}
use Rattle.bus_trace.specs.Compared.{BeginsWith}
use Rattle.bus_trace.specs.EventRows.{told_at}
use Rattle.trace_audit.proofs.Bringing.{some-by}
use Rattle.trace_audit.proofs.rerun.Rerun.behind_rows.Goals as goal

pub returns : goal.returns
returns c = record {
  rows = some-by c.behind_event.result c.behind_event.ensures.rows (λ rest begins event ends.
      let self = c.args.self.now in
      subst (λ e. BeginsWith c.args.text.now (told_at self.width e self.sent) rest.now) (c.last_event.ensures.last event ends)
      (subst (λ f. BeginsWith c.args.text.now (told_at self.width c.last_event.result.now f) rest.now) c.frames.ensures.list begins));
}
