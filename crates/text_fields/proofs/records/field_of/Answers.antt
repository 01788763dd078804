use Rattle.text_fields.proofs.CsvFields.{field_at-map}
use Rattle.text_fields.proofs.records.field_of.Goals as goal

pub returns-in_err-field : goal.returns-in_err-field
returns-in_err-field c = record { value = rw (c.from_residual.ensures, field_at-map, ← c.in_err-field.ensures.value) }

pub returns : goal.returns
returns c = record { value = rw (c.trim.ensures.value, field_at-map, ← c.in_ok-field.ensures.value) }
