use Rattle.std.proofs.Common.{arith}
use Rattle.std.proofs.lemmas.Fmt.{decimal_injective}
use Rattle.plan_check.proofs.plan_reading.read_number.Goals as goal

pub returns-in_err-number-clause-none : goal.returns-in_err-number-clause-none
returns-in_err-number-clause-none c = grind arith

pub returns-else-number-lt-NUMBERS_END-clause-none : goal.returns-else-number-lt-NUMBERS_END-clause-none
returns-else-number-lt-NUMBERS_END-clause-none c = grind (arith, decimal_injective)
