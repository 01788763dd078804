use Rattle.std.proofs.Common.{arith}
use Rattle.std.proofs.lemmas.Bool.Decides.{nat_tests}
use Rattle.log_reader.proofs.FieldBytes.{mask-behind, some-by}
use Rattle.log_reader.proofs.row_bytes.behind_mask.Goals as goal

pub returns-then-count-eq-MASK_DIGITS : goal.returns-then-count-eq-MASK_DIGITS
returns-then-count-eq-MASK_DIGITS c = record {
  mask = some-by c.behind_at.result c.behind_at.ensures.rest (λ rest is.
      mask-behind c.args.bytes.now c.hex_run-count.result c.hex_run-count.ensures.within c.hex_run-count.ensures.few
      c.args.byte rest.now (grind (arith, nat_tests)) c.hex_run-count.ensures.digits is);
}
