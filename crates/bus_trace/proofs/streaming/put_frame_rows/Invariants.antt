use Rattle.std.proofs.Common.{◌≤◌, All, length, map}
use Rattle.ftt_io.proofs.Shared.{PutsUpTo}
use Rattle.log_reader.specs.Row.{IsLogRow, text_of_rows}
use Rattle.log_reader.specs.declared.row.LogRow.TheVariants.{Frame}
use Rattle.bus_trace.proofs.streaming.put_frame_rows.Given as goal

-- the rows before those of what is left were put, and all are in range where those that are left are
abbrev pub invariant-loop-left : goal.invariant-loop-left
invariant-loop-left g l = record {
  put : PutsUpTo (g.O.Sink.told_bytes l.initial.out) (g.O.Sink.told_bytes l.out) (text_of_rows (map Frame l.frames)) (text_of_rows (map Frame l.left));
  told : All IsLogRow (map Frame l.left) → All IsLogRow (map Frame l.frames);
  faults : g.O.Sink.faults l.initial.out ≤ g.O.Sink.faults l.out;
}

abbrev pub decreases-loop-left : goal.decreases-loop-left
decreases-loop-left g l = length l.left
