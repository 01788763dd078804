use Rattle.std.proofs.Common.{List}
use Rattle.text_fields.specs.CsvReading.{bytes_left}
use Rattle.log_reader.specs.LogReading.{HasReadRows}
use Rattle.log_reader.specs.declared.row.LogRow.{LogRow}
use Rattle.trace_audit.specs.Auditing.{AreRowsHeard}
use Rattle.trace_audit.proofs.auditing.audit_read.Given as goal

-- the rows that were read are heard
abbrev pub invariant-loop-reader : goal.invariant-loop-reader
invariant-loop-reader l =
    (read : List LogRow) × HasReadRows l.text l.reader read × AreRowsHeard l.system l.steps l.requests read l.audit

abbrev pub decreases-loop-reader : goal.decreases-loop-reader
decreases-loop-reader l = bytes_left l.reader.records
