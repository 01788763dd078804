use Rattle.std.proofs.Common.{◌≡◌, ◌-◌, drop, length}
use Rattle.live_steps.specs.Live.{acts_of}
use Rattle.trace_audit.proofs.step_acts.place_of_act.Given as goal

abbrev pub invariant-loop-place : goal.invariant-loop-place
invariant-loop-place l = record {
  acts : acts_of l.operator (drop l.place l.steps) ≡ acts_of l.operator (drop l.fn.from l.steps);
}

abbrev pub decreases-loop-place : goal.decreases-loop-place
decreases-loop-place l = length l.steps - l.place
