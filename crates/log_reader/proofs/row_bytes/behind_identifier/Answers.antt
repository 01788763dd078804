use Rattle.std.proofs.Common.{arith}
use Rattle.std.proofs.lemmas.Bool.Decides.{nat_tests}
use Rattle.log_reader.proofs.FieldBytes.{identifier-behind, some-by}
use Rattle.log_reader.proofs.row_bytes.behind_identifier.Goals as goal

pub returns-then-is_identifier : goal.returns-then-is_identifier
returns-then-is_identifier c =
    let yes = c.if-is_identifier.true in
    record {
      id = some-by c.behind_at.result c.behind_at.ensures.rest (λ rest is.
          identifier-behind c.args.bytes.now rest.now (grind (arith, nat_tests)) (c.is_identifier.ensures.least yes)
          (c.is_identifier.ensures.most yes) (c.is_identifier.ensures.second yes) (c.is_identifier.ensures.third yes)
          (c.is_identifier.ensures.within yes) is);
    }
