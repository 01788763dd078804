use Rattle.std.proofs.Common.{ap, inr, refl, true, ◌∙◌, arith}
use Rattle.csv.specs.Reading.{strip_bom, with_flexible}
use Rattle.text_fields.proofs.CsvReading.{length-strip_bom-le}
use Rattle.text_fields.proofs.csv_rows.records_in.Goals as goal

pub returns : goal.returns
returns c =
    let reader = c.from_reader.ensures in
    let builder = c.flexible.ensures ∙ ap (λ b. with_flexible b true) c.has_headers.ensures in
    record {
      reads = record {
        trim = rw builder at reader.trim ∙ c.new.ensures.trim;
        ready = inr (inr (rw builder at reader.has_headers, reader.headers));
        config = rw builder at reader.config ∙ c.new.ensures.config;
        between = rw reader.state refl;
        left = strip_bom c.args.bytes.now;
        source = reader.source;
        rows = rw reader.state refl;
        few = omega (arith, length-strip_bom-le c.args.bytes.now);
      };
    }
