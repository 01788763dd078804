use Rattle.std.proofs.Common.{◌≡◌, None, refl, rules}
use Rattle.csv.specs.Records.{fields_of}
use Rattle.text_fields.specs.RecordReading.{fields_in}
use Rattle.text_fields.proofs.RecordSteps.{by_csv, by_csv_all, by_plain}
use Rattle.text_fields.proofs.records.next_record.Goals as goal

pub returns-in-Some-clause-one : goal.returns-in-Some-clause-one
returns-in-Some-clause-one c = λ found bytes read reads.
    by_csv bytes c.args.reader.now read reads c.in-Some.records c.in-Some.is _ (fields_of c.read_next.new.row) c.read_next.new.reader refl
    (c.in_ok-found.ensures.one found)

pub returns-in-Some-clause-all : goal.returns-in-Some-clause-all
returns-in-Some-clause-all c = λ found bytes read reads.
    by_csv_all bytes c.args.reader.now read reads c.in-Some.records c.in-Some.is (c.in_ok-found.ensures.all found)

pub returns-in-Some-read_plain-clause-one : goal.returns-in-Some-read_plain-clause-one
returns-in-Some-read_plain-clause-one c = λ found bytes read reads.
    let plain : c.args.reader.now.other ≡ None = search (rules, c.in_default.is) in
    by_plain bytes c.args.reader.now read reads plain _ (fields_in c.read_plain.new.row) plain (c.in-Some-read_plain.ensures.one found) (c.in-Some-read_plain.ensures.fewer found)
