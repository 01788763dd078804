use Rattle.admission.proofs.Multiples.{NoneTried}
use Rattle.admission.proofs.periods.multiple_of_both.Given as goal

abbrev pub invariant-loop-count : goal.invariant-loop-count
invariant-loop-count l = NoneTried l.step l.other l.count
