use Rattle.std.proofs.Common.{Bor, List, ℕ, Some}
use Rattle.csv.proofs.ReadFacts.{rows-end}
use Rattle.csv.specs.Reading.{default_config}
use Rattle.csv.specs.Records.{fields_of}
use Rattle.text_fields.proofs.CsvReading.{reads_all, reads_one}
use Rattle.text_fields.proofs.csv_rows.read_next.Goals as goal

pub returns-clause-one : goal.returns-clause-one
returns-clause-one c = λ found bytes read reads.
    let one = rw found at (c.in_ok-found.ensures.reads reads.trim reads.ready) in
    reads_one bytes c.args.reader.now c.read_record.new.reader read (fields_of c.read_record.new.row) reads one (c.in_ok-found.ensures.ready reads.trim) one.2 one.3

pub returns-clause-all : goal.returns-clause-all
returns-clause-all c = λ found bytes read reads.
    let none = rw found at (c.in_ok-found.ensures.reads reads.trim reads.ready) in
    let ended = rows-end (λ (s : Bor (List ℕ)). Some s.now) c.args.reader.now c.read_record.new.reader (fields_of c.read_record.new.row) default_config reads.left reads.config reads.source none in
    reads_all bytes c.args.reader.now read reads ended
