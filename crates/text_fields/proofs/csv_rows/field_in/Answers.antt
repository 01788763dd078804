use Rattle.std.proofs.Common.{◌∙◌}
use Rattle.csv.specs.Records.{fields_of}
use Rattle.text_fields.proofs.CsvFields.{field_at-item}
use Rattle.text_fields.proofs.csv_rows.field_in.Goals as goal

pub returns : goal.returns
returns c = record { value = c.get.ensures.value ∙ field_at-item (fields_of c.args.row.now) c.args.place }
