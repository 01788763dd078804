use Rattle.std.proofs.Common.{◌≡◌, ℕ, ◌<◌, ◌≤◌, length, slice_index_or}
use Rattle.bit_sets.specs.Sets.{most_slots}
use Rattle.plan_check.specs.Places.{IsCurrent, IsPlacePassed}
use Rattle.plan_check.proofs.places.move_places.Given as goal

abbrev pub invariant-loop-slot : goal.invariant-loop-slot
invariant-loop-slot l = record {
  count : length l.places ≡ most_slots;
  each : (s : ℕ) → s < l.slot → IsCurrent l.placed l.cycle s (slice_index_or l.places s 0);
  later : (s : ℕ) → l.slot ≤ s → s < l.slots → IsPlacePassed l.placed l.cycle s (slice_index_or l.places s 0);
}
