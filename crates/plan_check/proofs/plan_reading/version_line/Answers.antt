use Rattle.plan_check.proofs.LineReads.{neither}
use Rattle.plan_check.proofs.plan_reading.version_line.Goals as goal

pub returns-in_err-after-clause-none : goal.returns-in_err-after-clause-none
returns-in_err-after-clause-none c =
    rw c.from_residual.ensures (neither c.args.text.now c.in_default.ensures.none c.in_err-after.ensures.none)
