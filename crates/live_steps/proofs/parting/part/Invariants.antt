use Rattle.std.proofs.Common.{◌≡◌, sum_by}
use Rattle.steps_file.specs.StepsFile.{count_of}
use Rattle.live_steps.specs.Parts.{AreScripts}
use Rattle.live_steps.proofs.parting.part.Given as goal

abbrev pub invariant-loop-step : goal.invariant-loop-step
invariant-loop-step l = record {
  can_next : (goal.iterator-loop-step).can_next l.step-iterator;
  is_finite : (goal.iterator-loop-step).is_finite l.step-iterator;
  cycles : l.cycles ≡ sum_by count_of l.yielded;
  scripts : AreScripts l.yielded l.scripts.items;
}
