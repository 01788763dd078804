use Rattle.std.proofs.Common.{◌≡◌, map, take}
use Rattle.master_core.specs.Openings.{openings_of}
use Rattle.master_core.proofs.opened.opened_masks.Given as goal

abbrev pub invariant-loop-event : goal.invariant-loop-event
invariant-loop-event l = l.masks.items ≡ map (λ o. o.mask) (openings_of (take l.event-index l.history))
