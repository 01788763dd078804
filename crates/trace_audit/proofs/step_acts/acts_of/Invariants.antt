use Rattle.std.proofs.Common.{◌≡◌, ◌+◌, ◌≤◌, drop, length}
use Rattle.live_steps.specs.Live.{acts_of}
use Rattle.trace_audit.proofs.step_acts.acts_of.Given as goal

abbrev pub invariant-loop-step : goal.invariant-loop-step
invariant-loop-step l = record {
  count : l.acts + length (acts_of l.operator (drop l.step-index l.steps)) ≡ length (acts_of l.operator l.steps);
  few : l.acts ≤ l.step-index;
}
