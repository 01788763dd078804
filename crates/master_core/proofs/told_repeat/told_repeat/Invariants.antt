use Rattle.std.proofs.Common.{◌≡◌, None, take}
use Rattle.std.specs.Prelude.{fold}
use Rattle.master_core.specs.Certificates.{told_after}
use Rattle.master_core.proofs.told_repeat.told_repeat.Given as goal

abbrev pub invariant-loop-event : goal.invariant-loop-event
invariant-loop-event l = l.told ≡ fold (told_after l.next) None (take l.event-index l.history)
