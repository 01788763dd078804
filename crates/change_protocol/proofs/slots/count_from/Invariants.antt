use Rattle.std.proofs.Common.{◌≡◌, take}
use Rattle.change_protocol.specs.Slots.{counts_of}
use Rattle.change_protocol.proofs.slots.count_from.Given as goal

abbrev pub invariant-loop-place : goal.invariant-loop-place
invariant-loop-place l = l.counts ≡ counts_of (take l.place l.placed)
