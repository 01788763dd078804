use Rattle.log_reader.proofs.FieldBytes.{number-behind, some-by}
use Rattle.log_reader.proofs.row_bytes.behind_number.Goals as goal

pub returns-then-are_number : goal.returns-then-are_number
returns-then-are_number c = record {
  number = some-by c.behind_at.result c.behind_at.ensures.rest (λ rest is.
      number-behind c.args.bytes.now c.decimal_run-count.result c.decimal_run-count.ensures.within c.decimal_run-count.ensures.few
      c.args.most c.args.byte rest.now c.requires.few (c.are_number.ensures.few c.if-are_number.true)
      (c.are_number.ensures.some c.if-are_number.true) (c.are_number.ensures.no_zero c.if-are_number.true)
      c.decimal_run-count.ensures.digits is);
}
