use Rattle.std.proofs.Common.{arith}
use Rattle.plan_check.proofs.Runs.{run-all, run-ends, run-longer, run-start, run_with}
use Rattle.plan_check.proofs.plan_text.end_of_run.Goals as goal

pub loop-place-init : goal.loop-place-init
loop-place-init c = grind (arith, run-start)

pub returns-then-bits-mask-clause-run : goal.returns-then-bits-mask-clause-run
returns-then-bits-mask-clause-run c = grind (arith, run-ends)

pub loop-place-preserved : goal.loop-place-preserved
loop-place-preserved c = grind (arith, run-longer)

pub returns-clause-run : goal.returns-clause-run
returns-clause-run c = grind (arith, run_with, run-all)
