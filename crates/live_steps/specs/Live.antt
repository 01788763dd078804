-- The steps of a file, answered by a dispatcher and operators that share a master.
use Rattle.std.specs.Prelude.{◌≡◌, ℕ, ◌==◌, ◌≤◌}
use Rattle.std.specs.Prelude.{if◌then◌else◌, List, All, Option, Some, None, filter, filter_map, sum_by}
use Rattle.can_frame.specs.declared.data_frame.TimedFrame.{TimedFrame}
use Rattle.change_protocol.specs.declared.operations.Act.{Act}
use Rattle.async_window.specs.declared.request.Request.{Request}
use Rattle.steps_file.specs.StepsFile.{count_of}
use Rattle.steps_file.specs.declared.steps.Step.{Step}
use Rattle.steps_file.specs.declared.steps.Step.TheVariants as step
use Rattle.system_file.specs.declared.system.System.{System}
use Rattle.kept_run.specs.Kept.{Kept}
use Rattle.master_core.specs.declared.event.Event.{Event}
use Rattle.master_core.specs.History.{next_of}
use Rattle.live_master.specs.Callers.{is_called_by, number_of}
use Rattle.live_run.specs.Answers.{AnswersActs}
use Rattle.replay_run.specs.Run.{setting_of}

-- what a step asks of this operator, if anything
abbrev pub act_of : ℕ → Step → Option Act
act_of operator (step.Cycle count) = None
act_of operator (step.Act caller act) = if caller == operator then Some act else None

-- the acts of an operator, in the order of the file
abbrev pub acts_of : ℕ → List Step → List Act
acts_of operator steps = filter_map (act_of operator) steps

-- the history opens as many cycles as all counts together; the calls of each operator, 1 to 8, are its acts, in their
-- order, each once; and nobody else called. How the calls of different operators and the openings follow one another is
-- left open
pub record AnswersOperators (history : List Event) (steps : List Step) : Type 0 where
  pub opened : next_of history ≡ sum_by count_of steps
  pub answered : (operator : ℕ) → 1 ≤ operator → operator ≤ 8
      → AnswersActs operator (acts_of operator steps) (filter (is_called_by operator) history)
  pub others : All (λ event. number_of event ≤ 8) history

-- *Live run*: the history answers the steps of each operator, and history and trace keep what is promised
pub record IsLive (system : System) (steps : List Step) (requests : List Request)
    (history : List Event) (trace : List TimedFrame) : Type 0 where
  pub answers : AnswersOperators history steps
  pub kept : Kept (setting_of system requests) history trace
