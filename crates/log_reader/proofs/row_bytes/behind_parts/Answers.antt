use Rattle.log_reader.proofs.FieldBytes.{body-of, some-by}
use Rattle.log_reader.proofs.row_bytes.behind_parts.Goals as goal

pub returns-in-Some-behind_identifier : goal.returns-in-Some-behind_identifier
returns-in-Some-behind_identifier c = record {
  body = some-by c.behind_data.result c.behind_data.ensures.bytes (λ rest is.
      body-of c.args.bytes.now c.in-Some.id.now c.in-Some-behind_identifier.data.now rest.now
      c.in-Some.ensures.number c.in-Some-behind_identifier.ensures.id is);
}
