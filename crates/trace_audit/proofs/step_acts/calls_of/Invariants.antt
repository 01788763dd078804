use Rattle.std.proofs.Common.{◌≡◌, ◌+◌, ◌≤◌, drop}
use Rattle.std.specs.Prelude.{count_by}
use Rattle.live_master.specs.Callers.{is_called_by}
use Rattle.trace_audit.proofs.step_acts.calls_of.Given as goal

abbrev pub invariant-loop-event : goal.invariant-loop-event
invariant-loop-event l = record {
  count : l.calls + count_by (is_called_by l.operator) (drop l.event-index l.history) ≡ count_by (is_called_by l.operator) l.history;
  few : l.calls ≤ l.event-index;
}
