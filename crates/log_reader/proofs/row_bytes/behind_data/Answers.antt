use Rattle.std.proofs.Common.{arith}
use Rattle.std.proofs.lemmas.Bool.Decides.{nat_tests}
use Rattle.log_reader.proofs.FieldBytes.{data-behind, some-by}
use Rattle.log_reader.proofs.row_bytes.behind_data.Goals as goal

pub returns-then-count-eq0 : goal.returns-then-count-eq0
returns-then-count-eq0 c = record {
  bytes = some-by c.behind_at.result c.behind_at.ensures.rest (λ rest is.
      data-behind c.args.bytes.now c.hex_run-count.result c.hex_run-count.ensures.within c.hex_run-count.ensures.few
      10 rest.now (grind (arith, nat_tests)) c.hex_run-count.ensures.digits is);
}
