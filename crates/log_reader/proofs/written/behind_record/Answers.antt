use Rattle.std.proofs.Common.{◌++◌, ◌∷◌, [], ◌∙◌, sym, ap}
use Rattle.std.specs.List.{join_with_byte}
use Rattle.csv.specs.Records.{fields_of}
use Rattle.log_reader.proofs.FieldBytes.{some-by}
use Rattle.log_reader.proofs.RowForms.{row-read}
use Rattle.log_reader.proofs.written.behind_record.Goals as goal

pub returns-in-Some : goal.returns-in-Some
returns-in-Some c =
    let form = row-read (fields_of c.args.fields.now) c.in-Some._row (sym c.in-Some.ensures.value) in
    record {
      row = some-by c.behind_fields.result c.behind_fields.ensures.rest (λ rest is. record {
        row = c.in-Some._row;
        legal = form.legal;
        written = is ∙ ap (λ f. (join_with_byte 44 f ++ 10 ∷ []) ++ rest.now) form.is;
      });
    }
