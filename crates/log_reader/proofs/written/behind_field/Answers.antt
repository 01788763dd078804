use Rattle.std.proofs.Common.{◌++◌, ◌∙◌, sym, ap}
use Rattle.log_reader.proofs.FieldBytes.{some-by}
use Rattle.log_reader.proofs.written.behind_field.Goals as goal

pub returns-in-Some-strip_prefix : goal.returns-in-Some-strip_prefix
returns-in-Some-strip_prefix c = record {
  rest = some-by c.behind_at.result c.behind_at.ensures.rest (λ rest is.
      let field = c.in-Some.field.now in
      (field, sym c.in-Some.ensures.value, c.in-Some-strip_prefix.ensures.rest ∙ ap (λ l. field ++ l) is));
}
