use Rattle.log_reader.proofs.FieldBytes.{open-row, some-by}
use Rattle.log_reader.proofs.row_bytes.behind_open.Goals as goal

pub returns-in-Some-behind_mask : goal.returns-in-Some-behind_mask
returns-in-Some-behind_mask c = record {
  row = some-by c.behind_number-in-Some-behind_mask.result c.behind_number-in-Some-behind_mask.ensures.number (λ rest is.
      open-row c.args.bytes.now c.in-Some.mask.now c.in-Some-behind_mask.width.now rest.now
      c.in-Some.ensures.number c.in-Some-behind_mask.ensures.mask is);
}
