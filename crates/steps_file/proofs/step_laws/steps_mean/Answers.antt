use Rattle.steps_file.proofs.StepsSaid.{computed_fault, computed_steps, fault_computed, no_memory, steps_computed}
use Rattle.steps_file.proofs.step_laws.steps_mean.Goals as goal

pub returns : goal.returns
returns c =
    record {
      ok = λ rows steps. (computed_steps rows steps, steps_computed rows steps);
      fault = λ rows number why. (computed_fault rows number why, fault_computed rows number why);
      no_more = no_memory;
    }
