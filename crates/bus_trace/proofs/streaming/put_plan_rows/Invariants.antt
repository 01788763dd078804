use Rattle.std.proofs.Common.{◌≡◌, ◌≤◌, ◌+◌, All, length}
use Rattle.ftt_io.proofs.Shared.{PutsUpTo}
use Rattle.bus_trace.specs.LogRows.{plan_told}
use Rattle.log_reader.specs.Row.{IsLogRow, text_of_rows}
use Rattle.bus_trace.proofs.streaming.put_plan_rows.Given as goal

-- the rows before those of what is left were put, and all are in range where those that are left are
abbrev pub invariant-loop-left : goal.invariant-loop-left
invariant-loop-left g l = record {
  put : PutsUpTo (g.O.Sink.told_bytes l.initial.out) (g.O.Sink.told_bytes l.out) (text_of_rows (plan_told l.from l.masks)) (text_of_rows (plan_told l.first l.left));
  told : All IsLogRow (plan_told l.first l.left) → All IsLogRow (plan_told l.from l.masks);
  faults : g.O.Sink.faults l.initial.out ≤ g.O.Sink.faults l.out;
  all : l.first + length l.left ≡ l.from + length l.masks;
}

abbrev pub decreases-loop-left : goal.decreases-loop-left
decreases-loop-left g l = length l.left
