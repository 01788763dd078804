use Rattle.std.proofs.Common.{◌≡◌, ◌+◌, drop}
use Rattle.std.specs.Prelude.{sum_by}
use Rattle.steps_file.specs.StepsFile.{count_of}
use Rattle.trace_audit.proofs.step_acts.cycles_of.Given as goal

abbrev pub invariant-loop-step : goal.invariant-loop-step
invariant-loop-step l = record {
  sum : l.cycles + sum_by count_of (drop l.step-index l.steps) ≡ sum_by count_of l.steps;
}
