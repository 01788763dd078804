use Rattle.std.proofs.Common.{◌∙◌}
use Rattle.fttcan_top.specs.declared.status.Status.{Status}
use Rattle.fttcan_run_c.proofs.Calling.{called-without-memory}
use Rattle.fttcan_run_c.proofs.run.fttcan_run.Goals as goal

pub returns-in-Err-clause-called : goal.returns-in-Err-clause-called
returns-in-Err-clause-called c =
    (Status.Memory, c.from-in-Err.ensures ∙ c.code-in-Err.ensures.code, called-without-memory _ _ _ _ _ c.put-in-Err.ensures.front)
