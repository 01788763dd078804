use Rattle.std.proofs.Common.{◌≤◌, length}
use Rattle.ftt_io.proofs.Shared.{PutsUpTo}
use Rattle.fttcan_top.proofs.rows.put_rows.Given as goal

abbrev pub invariant-loop-rest : goal.invariant-loop-rest
invariant-loop-rest g l = record {
  put : PutsUpTo (g.O.Sink.told_bytes l.initial.out) (g.O.Sink.told_bytes l.out) l.text l.rest;
  faults : g.O.Sink.faults l.initial.out ≤ g.O.Sink.faults l.out;
}

abbrev pub decreases-loop-rest : goal.decreases-loop-rest
decreases-loop-rest g l = length l.rest
