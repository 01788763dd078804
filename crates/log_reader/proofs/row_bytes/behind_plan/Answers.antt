use Rattle.log_reader.proofs.FieldBytes.{plan-row, some-by}
use Rattle.log_reader.proofs.row_bytes.behind_plan.Goals as goal

pub returns-in-Some : goal.returns-in-Some
returns-in-Some c = record {
  row = some-by c.behind_mask.result c.behind_mask.ensures.mask (λ rest is.
      plan-row c.args.bytes.now c.in-Some.mask.now rest.now c.in-Some.ensures.number is);
}
