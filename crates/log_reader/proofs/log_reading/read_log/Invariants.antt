use Rattle.text_fields.specs.CsvReading.{bytes_left}
use Rattle.log_reader.specs.LogReading.{HasReadRows}
use Rattle.log_reader.proofs.log_reading.read_log.Given as goal

-- the rows so far are those that were read
abbrev pub invariant-loop-rows : goal.invariant-loop-rows
invariant-loop-rows l = HasReadRows l.bytes l.reader l.rows.items

abbrev pub decreases-loop-rows : goal.decreases-loop-rows
decreases-loop-rows l = bytes_left l.reader.records
