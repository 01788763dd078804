use Rattle.std.proofs.Common.{take}
use Rattle.admission.proofs.Multiples.{IsPeriodSoFar}
use Rattle.admission.proofs.periods.period.Given as goal

abbrev pub invariant-loop-p : goal.invariant-loop-p
invariant-loop-p l = IsPeriodSoFar l.limit (take l.p-index l.placed) l.common
