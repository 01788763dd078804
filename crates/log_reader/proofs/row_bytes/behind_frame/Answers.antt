use Rattle.log_reader.proofs.FieldBytes.{frame-row, some-by}
use Rattle.log_reader.proofs.row_bytes.behind_frame.Goals as goal

pub returns-in-Some : goal.returns-in-Some
returns-in-Some c = record {
  row = some-by c.behind_body.result c.behind_body.ensures.body (λ rest is.
      frame-row c.args.bytes.now c.in-Some.len.now rest.now c.in-Some.ensures.number is);
}
