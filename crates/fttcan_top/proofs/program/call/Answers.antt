use Rattle.std.proofs.Common.{refl}
use Rattle.fttcan_top.proofs.EndLemmas.{end-carried, end-stopped}
use Rattle.fttcan_top.proofs.program.call.Goals as goal

pub returns-in_err-task-clause-ended : goal.returns-in_err-task-clause-ended
returns-in_err-task-clause-ended g c =
    end-stopped _ _ _ _ _ _ _ _ _ _ c.from_residual.ensures.1 c.in_err-task.ensures.stop refl

pub returns-clause-ended : goal.returns-clause-ended
returns-clause-ended g c =
    end-carried _ _ _ _ _ _ _ _ _ c.carry_out.ensures.done c.in_ok-task.task c.in_ok-task.ensures.asked
    c.carry_out.ensures.carried
