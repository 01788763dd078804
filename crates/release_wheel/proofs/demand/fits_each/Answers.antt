use Rattle.std.proofs.Common.{arith}
use Rattle.std.proofs.lemmas.Bool.{cases_lt}
use Rattle.release_wheel.proofs.demand.fits_each.Goals as goal

pub loop-start-preserved : goal.loop-start-preserved
loop-start-preserved c = grind (arith, cases_lt)

pub returns : goal.returns
returns c = record { fits = λ done at from to. c.loop-start.invariant at from (let over = c.loop-start-test.false in omega arith) to }
