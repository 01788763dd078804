use Rattle.std.proofs.Common.{arith}
use Rattle.stuff_bound.proofs.Faults.{some_answer, not_with_sixth, first_sixth_only}
use Rattle.stuff_bound.proofs.laws.one_answer.Goals as goal

pub returns : goal.returns
returns c = grind (arith, some_answer, not_with_sixth, first_sixth_only)
