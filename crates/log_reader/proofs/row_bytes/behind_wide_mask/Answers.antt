use Rattle.std.proofs.Common.{sym}
use Rattle.log_reader.proofs.FieldBytes.{some-by, wide-mask-behind}
use Rattle.log_reader.proofs.row_bytes.behind_wide_mask.Goals as goal

pub returns-in-Some : goal.returns-in-Some
returns-in-Some c = record {
  mask = some-by c.behind_at.result c.behind_at.ensures.rest (λ rest is.
      wide-mask-behind c.in-Some._mask c.args.byte c.args.bytes.now c.split_at.result.0.now c.split_at.result.1.now rest.now
      c.in-Some.ensures.small c.in-Some.ensures.found (sym c.split_at.ensures.by_index.0) is);
}
