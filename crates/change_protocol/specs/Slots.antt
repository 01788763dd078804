-- What the placed entries make of each slot, and which of them an operation ends.
use Rattle.std.specs.Prelude.{◌≡◌, ◌≢◌, ℕ, ◌+◌, ◌<◌, Bool, true, false, ◌&&◌}
use Rattle.std.specs.Prelude.{if◌then◌else◌, Option, Some, None, is_none, List, [], ◌∷◌, All, length, replicate, slice_index_or}
use Rattle.std.specs.Prelude.{slice_set}
use Rattle.std.specs.Option.{option_map_or}
use Rattle.requirement_table.specs.declared.entries.Placed.{Placed}
use Rattle.bit_sets.specs.Sets.{most_slots}
use Rattle.requirement_table.specs.Table.{IsWellPlaced, free_from}
use Rattle.change_protocol.specs.declared.operations.Op.{Op}
use Rattle.change_protocol.specs.declared.slots.SlotUse.{SlotUse}
use Rattle.change_protocol.specs.Applied.{free_in, live_in}
use Rattle.change_protocol.specs.Malformed.{slot_empty}
use Rattle.change_protocol.specs.Operations.{ends}

-- what these placed entries make of a slot; one with a live entry is free from no cycle on
abbrev pub use_of : List Placed → ℕ → SlotUse
use_of placed slot = record {
  live = live_in placed slot;
  free = if is_none (live_in placed slot) then free_in placed slot else 0;
}

-- a slot that has no entry
abbrev pub unused : SlotUse
unused = record { live = None; free = 0 }

-- a slot whose last entry is this one
abbrev pub use_by : Placed → SlotUse
use_by p = record {
  live = if is_none p.end then Some p else None;
  free = option_map_or (λ from. from) (free_from p) 0;
}

-- an entry of the slot stands at the place, and tells what all of them make of it
pub record IsLastAt (placed : List Placed) (slot place : ℕ) : Type 0 where
  pub within : place < length placed
  pub has : (d : Placed) → (slice_index_or placed place d).entry.slot ≡ slot
  pub makes : (d : Placed) → use_of placed slot ≡ use_by (slice_index_or placed place d)

-- there are so many entries up to the last one of the slot, which is counted; 0 where it has none
pub record IsUpToLast (placed : List Placed) (slot count : ℕ) : Type 0 where
  pub none : count ≡ 0 → use_of placed slot ≡ unused
  pub last : (place : ℕ) → count ≡ place + 1 → IsLastAt placed slot place

-- so many entries there are up to the last one of each slot
pub record AreUpToLast (placed : List Placed) (counts : List ℕ) : Type 0 where
  pub room : length counts ≡ most_slots
  pub each : (slot d : ℕ) → slot < most_slots → IsUpToLast placed slot (slice_index_or counts slot d)

-- for each slot how many entries there are up to its last one, which is counted; 0 where it has none. So many entries
-- stand before these, and these numbers are theirs
abbrev pub counts_behind : ℕ → List ℕ → List Placed → List ℕ
counts_behind before counts [] = counts
counts_behind before counts (p ∷ placed) =
    counts_behind (before + 1) (slice_set counts p.entry.slot (before + 1)) placed

-- the same for a whole list
abbrev pub counts_of : List Placed → List ℕ
counts_of placed = counts_behind 0 (replicate most_slots 0) placed

-- the list is well placed, and these are its numbers
pub record IsCounted (placed : List Placed) (counts : List ℕ) : Type 0 where
  pub well_placed : IsWellPlaced placed
  pub counted : counts ≡ counts_of placed

-- the operation ends the entry, where no other one does
abbrev pub ended_by : Op → Placed → Bool
ended_by op p = ends p.entry.slot op && is_none p.end

-- the entry at the place passes the test, and no other one
pub record IsOnlyAt (test : Placed → Bool) (placed : List Placed) (place : ℕ) : Type 0 where
  pub within : place < length placed
  pub holds : (d : Placed) → test (slice_index_or placed place d) ≡ true
  pub others : (k : ℕ) (d : Placed) → k < length placed → k ≢ place → test (slice_index_or placed k d) ≡ false

-- the one entry that passes the test stands at the place that was found; none passes it where none was found
abbrev pub FindsOnly : (Placed → Bool) → List Placed → Option ℕ → Type 0
FindsOnly test placed None = All (λ p. test p ≡ false) placed
FindsOnly test placed (Some place) = IsOnlyAt test placed place

-- by the numbers of a well placed list, the one entry that the operation ends stands at the place, where it finds one
-- that it can end
abbrev pub EndsAt : List ℕ → Op → Option ℕ → Type 0
EndsAt counts op found =
    (placed : List Placed) → IsCounted placed counts → slot_empty placed op ≡ []
    → FindsOnly (ended_by op) placed found
