use Rattle.std.proofs.Common.{◌≡◌, ℕ, ◌≤◌, ◌<◌, length}
use Rattle.std.specs.Prelude.{count_by}
use Rattle.live_master.specs.Callers.{is_called_by}
use Rattle.live_steps.specs.Live.{acts_of}
use Rattle.trace_audit.proofs.auditor.answers_all.Given as goal

abbrev pub invariant-loop-operator : goal.invariant-loop-operator
invariant-loop-operator l = record {
  so_far : (operator : ℕ) → 1 ≤ operator → operator < l.operator
      → count_by (is_called_by operator) l.history ≡ length (acts_of operator l.steps);
}
