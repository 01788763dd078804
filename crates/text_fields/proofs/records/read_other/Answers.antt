use Rattle.std.proofs.Common.{[], refl}
use Rattle.csv.specs.Records.{fields_of}
use Rattle.text_fields.proofs.RecordSteps.{by_plain_all, to_csv}
use Rattle.text_fields.proofs.records.read_other.Goals as goal

pub returns-clause-one : goal.returns-clause-one
returns-clause-one c = λ found bytes read reads.
    let begun = c.records_in-records.ensures.reads in
    to_csv bytes c.args.reader.now read reads c.requires.plain _ (fields_of c.read_next.new.row) c.records_in-records.result c.read_next.new.reader refl begun
    (c.in_ok-found.ensures.one found c.args.reader.now.rest.now [] begun)

pub returns-clause-all : goal.returns-clause-all
returns-clause-all c = λ found bytes read reads.
    by_plain_all bytes c.args.reader.now read reads c.requires.plain
    (c.in_ok-found.ensures.all found c.args.reader.now.rest.now [] c.records_in-records.ensures.reads)
