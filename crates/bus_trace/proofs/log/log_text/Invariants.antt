use Rattle.std.proofs.Common.{◌≤◌, take}
use Rattle.bus_trace.proofs.LogHistory.{IsWritten}
use Rattle.bus_trace.proofs.log.log_text.Given as goal

abbrev pub invariant-loop-event : goal.invariant-loop-event
invariant-loop-event l =
    IsWritten l.trace (take l.event-index l.history) l.rows.text.items l.entries.kept.items l.next l.left
    × (l.next ≤ l.event-index)
