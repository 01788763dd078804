use Rattle.recurrence_check.specs.Course.{NoneSame}
use Rattle.recurrence_check.proofs.compared.first_same.Given as goal

abbrev pub invariant-loop-place : goal.invariant-loop-place
invariant-loop-place g l = record { none : NoneSame (g.W.Walk.course l.walk) l.states l.place l.state }
