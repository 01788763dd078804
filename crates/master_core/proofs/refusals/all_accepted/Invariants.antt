use Rattle.std.proofs.Common.{◌≡◌, true, take}
use Rattle.master_core.specs.Accepted.{all_accepted}
use Rattle.master_core.proofs.refusals.all_accepted.Given as goal

abbrev pub invariant-loop-event : goal.invariant-loop-event
invariant-loop-event l = all_accepted (take l.event-index l.history) ≡ true
