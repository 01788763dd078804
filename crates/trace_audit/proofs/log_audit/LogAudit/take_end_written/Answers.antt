use Rattle.std.proofs.Common.{[]}
use Rattle.log_reader.specs.declared.row.LogRow.TheVariants as row
use Rattle.trace_audit.proofs.Bringing.{some-by}
use Rattle.trace_audit.proofs.log_audit.LogAudit.take_end_written.Goals as goal

pub returns : goal.returns
returns c = record {
  on = some-by c.behind_end.result c.behind_end.ensures.row (λ rest begins steps. record {
    line = row.End c.next-next.result;
    later = [];
    begins = begins;
    hears = λ system requests rows heard. (c.take_end.ensures.hears steps).stand c.if-not-take_end.false system requests rows heard;
  });
}
