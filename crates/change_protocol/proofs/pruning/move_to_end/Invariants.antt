use Rattle.change_protocol.proofs.Moving.{IsMovedFrom}
use Rattle.change_protocol.proofs.pruning.move_to_end.Given as goal

abbrev pub invariant-loop-place : goal.invariant-loop-place
invariant-loop-place l = IsMovedFrom l.cycle l.initial.list l.list l.first l.slots l.place
