use Rattle.std.proofs.Common.{List}
use Rattle.text_fields.specs.CsvReading.{bytes_left}
use Rattle.log_reader.specs.LogReading.{HasReadRows}
use Rattle.log_reader.specs.declared.row.LogRow.{LogRow}
use Rattle.log_reader.proofs.log_reading.check_log.Given as goal

-- some rows were read
abbrev pub invariant-loop-reader : goal.invariant-loop-reader
invariant-loop-reader l = (rows : List LogRow) × HasReadRows l.bytes l.reader rows

abbrev pub decreases-loop-reader : goal.decreases-loop-reader
decreases-loop-reader l = bytes_left l.reader.records
