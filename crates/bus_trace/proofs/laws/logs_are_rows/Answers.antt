use Rattle.std.proofs.Common.{sym}
use Rattle.bus_trace.proofs.RowsTold.{log-told}
use Rattle.bus_trace.proofs.laws.logs_are_rows.Goals as goal

pub returns : goal.returns
returns c = record { rows = λ history trace. sym (log-told history trace) }
