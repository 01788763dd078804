use Rattle.std.proofs.Common.{arith}
use Rattle.text_fields.proofs.Shared.{no_feed-decimal}
use Rattle.plan_check.proofs.plan_reading.number_line.Goals as goal

pub returns-in_err-digits-clause-none : goal.returns-in_err-digits-clause-none
returns-in_err-digits-clause-none c = grind (arith, no_feed-decimal)

pub returns-in_err-number-clause-none : goal.returns-in_err-number-clause-none
returns-in_err-number-clause-none c = grind (arith, no_feed-decimal)

pub returns-clause-found : goal.returns-clause-found
returns-clause-found c = grind arith
