use Rattle.std.proofs.Common.{map, subst, sym, arith}
use Rattle.csv.specs.Records.{fields_of}
use Rattle.log_reader.specs.LogReading.{HasReadRows, ReadsRow, RowReader}
use Rattle.log_reader.specs.Row.{fields_of_row}
use Rattle.log_reader.proofs.Readings.{reads-fault, reads-row}
use Rattle.log_reader.proofs.reader.LogReader.next_row.Goals as goal

pub returns-then-not-branch-clause-all : goal.returns-then-not-branch-clause-all
returns-then-not-branch-clause-all c = λ bytes rows is.
    let seen = subst (λ (r : RowReader). HasReadRows bytes r rows) (sym c.self.view_is) is in
    (seen.legal, c.in_ok-read_next.ensures.all c.if-not-branch.true bytes (map fields_of_row rows) seen.reads)

pub returns-in_default-clause-faulty : goal.returns-in_default-clause-faulty
returns-in_default-clause-faulty c = λ bytes rows is.
    let before : RowReader = record { records = c.self.inside.records; count = c.self.inside.count } in
    let after : RowReader = record { records = c.read_next.new.reader; count = c.saturating_add-self-inside.result } in
    let seen : HasReadRows bytes before rows = subst (λ (r : RowReader). HasReadRows bytes r rows) (sym c.self.view_is) is in
    let fields = fields_of c.read_next.new.row in
    let one = c.in_ok-read_next.ensures.one c.if-not-branch.false bytes (map fields_of_row rows) seen.reads in
    reads-fault bytes before after rows fields seen one c.in_default.ensures.value (λ fits. omega (arith, c.saturating_add-self-inside.ensures, fits))

pub returns-clause-more : goal.returns-clause-more
returns-clause-more c = λ bytes rows is.
    let before : RowReader = record { records = c.self.inside.records; count = c.self.inside.count } in
    let after : RowReader = record { records = c.read_next.new.reader; count = c.saturating_add-self-inside.result } in
    let seen : HasReadRows bytes before rows = subst (λ (r : RowReader). HasReadRows bytes r rows) (sym c.self.view_is) is in
    let fields = fields_of c.read_next.new.row in
    let one = c.in_ok-read_next.ensures.one c.if-not-branch.false bytes (map fields_of_row rows) seen.reads in
    subst (λ (r : RowReader). ReadsRow bytes r after rows c.in-Some.row) c.self.view_is
    (reads-row bytes before after rows fields seen one c.in-Some.row (sym c.in-Some.ensures.value) (λ fits. omega (arith, c.saturating_add-self-inside.ensures, fits)))
