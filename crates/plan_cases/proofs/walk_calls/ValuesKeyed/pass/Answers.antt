use Rattle.std.proofs.Common.{refl, arith}
use Rattle.plan_cases.proofs.walk_calls.ValuesKeyed.pass.Goals as goal

-- no state is passed
pub returns-clause-stretch : goal.returns-clause-stretch
returns-clause-stretch c = record {
  state = λ k. c.args._here.now;
  begins = refl;
  ends = refl;
  goes_on = λ k below. absurd (omega arith);
  good = λ k below. absurd (omega arith);
  number_is = λ k below. absurd (omega arith);
  key_is = λ k below. absurd (omega arith);
}
