use Rattle.bus_line.proofs.OneRecording.{one_line, one_trace, unbroken, one_break, read_back}
use Rattle.bus_line.proofs.laws.one_recording.Goals as goal

pub returns : goal.returns
returns c = record { one_line = one_line; one_trace = one_trace; unbroken = unbroken; one_break = one_break; read_back = read_back }
