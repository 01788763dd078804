use Rattle.std.proofs.Common.{refl}
use Rattle.asked_files.specs.declared.tasks.Task.{Task}
use Rattle.fttcan_top.proofs.EndLemmas.{end-carried, end-stopped, not-live}
use Rattle.fttcan_top.proofs.by_threads.call.Goals as goal

pub returns-in_err-task-clause-ended : goal.returns-in_err-task-clause-ended
returns-in_err-task-clause-ended g c =
    end-stopped _ _ _ _ _ _ _ _ _ _ c.from_residual.ensures.1 c.in_err-task.ensures.stop refl

pub returns-clause-ended : goal.returns-clause-ended
returns-clause-ended g c =
    end-carried _ _ _ _ _ _ _ _ _ c.put_answer.ensures.done c.in_ok-task.task c.in_ok-task.ensures.asked
    (rw c.in-Live.is
    (c.put_answer.ensures.carried (Task.Live c.in-Live.job c.in-Live.report) c.live_log_of.ensures.log))

pub unreachable-requires : goal.unreachable-requires
unreachable-requires g c = not-live c.in_ok-task.task c.in_default.not-Live c.in_ok-task.ensures.threads
