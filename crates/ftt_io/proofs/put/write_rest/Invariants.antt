use Rattle.std.proofs.Common.{◌≤◌, length}
use Rattle.ftt_io.proofs.Shared.{PutsUpTo}
use Rattle.ftt_io.proofs.put.write_rest.Given as goal

abbrev pub invariant-loop-rest : goal.invariant-loop-rest
invariant-loop-rest g l =
    PutsUpTo (g.O.Sink.told_bytes l.initial.sink) (g.O.Sink.told_bytes l.sink) l.bytes l.rest × (g.O.Sink.faults l.initial.sink ≤ g.O.Sink.faults l.sink)

abbrev pub decreases-loop-rest : goal.decreases-loop-rest
decreases-loop-rest g l = length l.rest
