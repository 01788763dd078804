use Rattle.std.proofs.Common.{◌≤◌, take}
use Rattle.bit_sets.specs.Sets.{most_slots}
use Rattle.plan_check.specs.Places.{AreSlotsBelow}
use Rattle.plan_check.proofs.places.slots_of.Given as goal

abbrev pub invariant-loop-p : goal.invariant-loop-p
invariant-loop-p l = record {
  below : AreSlotsBelow l.slots (take l.p-index l.placed);
  known : l.slots ≤ most_slots;
}
