use Rattle.std.proofs.Common.{◌≤◌, ◌+◌, drop}
use Rattle.ftt_io.proofs.Shared.{PutsUpTo}
use Rattle.poll_run.specs.RequestRows.{request_rows}
use Rattle.poll_run.proofs.request_rows.put_request_rows.Given as goal

abbrev pub invariant-loop-place : goal.invariant-loop-place
invariant-loop-place g l = record {
  put : PutsUpTo (g.O.Sink.told_bytes l.initial.out) (g.O.Sink.told_bytes l.out) (request_rows 1 l.streams l.fates)
      (request_rows (l.place + 1) (drop l.place l.streams) (drop l.place l.fates));
  faults : g.O.Sink.faults l.initial.out ≤ g.O.Sink.faults l.out;
}
