use Rattle.std.proofs.Common.{◌≡◌, ◌++◌, drop}
use Rattle.master_core.proofs.past.past_of.Given as goal

abbrev pub invariant-loop-event : goal.invariant-loop-event
invariant-loop-event l = l.past.events ++ drop l.event-index l.events ≡ l.events
