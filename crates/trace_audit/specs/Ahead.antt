-- What a run has before it in the steps of a file.
use Rattle.std.specs.Prelude.{◌≡◌, ℕ, ◌<◌, List, Option, None, Some, count_by, drop, length, slice_get, slice_index, sum_by}
use Rattle.change_protocol.specs.declared.operations.Act.{Act}
use Rattle.master_core.specs.declared.event.Event.{Event}
use Rattle.steps_file.specs.StepsFile.{count_of}
use Rattle.steps_file.specs.declared.steps.Step.{Step}
use Rattle.live_master.specs.Callers.{is_called_by}
use Rattle.live_steps.specs.Live.{act_of, acts_of}
use Rattle.trace_audit.specs.declared.ahead.StepsAhead.{StepsAhead}

-- what a step asks of this operator, where there is a step
abbrev pub act_of_some : ℕ → Option Step → Option Act
act_of_some operator None = None
act_of_some operator (Some step) = act_of operator step

-- what the step at a place asks of this operator, if anything; nothing behind all steps
abbrev pub act_in : ℕ → List Step → ℕ → Option Act
act_in operator steps place = act_of_some operator (slice_get steps place)

-- after a history: the acts of each operator in the steps from its place on are those that it has not taken in the
-- history; and all counts together ask for so many cycles
pub record AreStepsAhead (steps : List Step) (history : List Event) (ahead : StepsAhead) : Type 0 where
  pub cycles : ahead.cycles ≡ sum_by count_of steps
  pub numbers : length ahead.places ≡ 9
  pub acts : (operator : ℕ) → operator < 9 → acts_of operator (drop (slice_index ahead.places operator) steps)
      ≡ drop (count_by (is_called_by operator) history) (acts_of operator steps)
