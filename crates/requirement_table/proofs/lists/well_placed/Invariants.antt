use Rattle.std.proofs.Common.{◌≡◌, ℕ, ◌<◌, length, take, None, slice_index_or}
use Rattle.bit_sets.specs.Sets.{most_slots}
use Rattle.requirement_table.specs.Table.{IsWellPlaced}
use Rattle.requirement_table.proofs.FreeSlots.{IsFreeFrom}
use Rattle.requirement_table.proofs.lists.well_placed.Given as goal

abbrev pub invariant-loop-p : goal.invariant-loop-p
invariant-loop-p l = record {
  well_placed : IsWellPlaced (take l.p-index l.placed);
  room : length l.free_from ≡ most_slots;
  free : (slot : ℕ) → slot < most_slots → IsFreeFrom (take l.p-index l.placed) slot (slice_index_or l.free_from slot None);
}
