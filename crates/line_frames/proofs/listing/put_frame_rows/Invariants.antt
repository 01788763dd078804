-- The rows of the frames so far were put.
use Rattle.std.proofs.Common.{◌≤◌, drop}
use Rattle.std.specs.List.{flat_map}
use Rattle.ftt_io.proofs.Shared.{PutsUpTo}
use Rattle.line_frames.specs.Rows.{frame_row}
use Rattle.line_frames.proofs.listing.put_frame_rows.Given as goal

abbrev pub invariant-loop-sent : goal.invariant-loop-sent
invariant-loop-sent g l = record {
  put : PutsUpTo (g.O.Sink.told_bytes l.initial.out) (g.O.Sink.told_bytes l.out) (flat_map frame_row l.frames) (flat_map frame_row (drop l.sent-index l.frames));
  faults : g.O.Sink.faults l.initial.out ≤ g.O.Sink.faults l.out;
}
