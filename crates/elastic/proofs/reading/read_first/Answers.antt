-- There is no first row, or it says no start.
use Rattle.std.proofs.Common.{◌≡◌, [], map, true, false, sym, ap, rules}
use Rattle.text_fields.specs.RecordReading.{fields_in}
use Rattle.text_fields.specs.CsvRows.{rows_of, trimmed}
use Rattle.text_fields.proofs.Shared.{trimmed-split}
use Rattle.elastic.proofs.WishLines.{bad_start, no_rows}
use Rattle.elastic.proofs.reading.read_first.Goals as goal

pub returns-then-not-branch-clause-fault : goal.returns-then-not-branch-clause-fault
returns-then-not-branch-clause-fault c bytes reads =
    let none : c.in_ok-next_record.field-0 ≡ false = search (rules, c.if-not-branch.true) in
    no_rows (rows_of bytes) (ap (map (map trimmed)) (c.in_ok-next_record.ensures.all none bytes [] reads))

pub returns-in-Err-clause-fault : goal.returns-in-Err-clause-fault
returns-in-Err-clause-fault c bytes reads =
    let some : c.in_ok-next_record.field-0 ≡ true = search (rules, c.if-not-branch.false) in
    let fields = fields_in c.next_record.new.row in
    let read = c.in_ok-next_record.ensures.one some bytes [] reads in
    bad_start (rows_of bytes) (map (map trimmed) read.below) (map trimmed fields) c.in-Err.why
    (trimmed-split [] fields bytes read.below read.split) (sym c.in-Err.ensures.value)
