-- The current entries of slots, and the release of what they send: words for contracts inside the crate.
use Rattle.std.specs.Prelude.{◌≡◌, ℕ, ◌<◌, ◌≤◌, true, false, List, All, length, Option, Some, option_map, slice_get, slice_index_or}
use Rattle.requirement_table.specs.declared.entries.Placed.{Placed}
use Rattle.requirement_table.specs.Instance.{Instance, instance_of, release_of}
use Rattle.bit_sets.specs.Sets.{most_slots}
use Rattle.requirement_table.specs.Table.{is_over}

-- Places of entries in the list

-- the entries of the slot that stand before the place are over by the cycle
abbrev pub IsPlacePassed : List Placed → ℕ → ℕ → ℕ → Type 0
IsPlacePassed placed c slot place =
    (j : ℕ) (p : Placed) → j < place → slice_get placed j ≡ Some p → p.entry.slot ≡ slot → is_over c p ≡ true

-- the place is that of the first entry of the slot that is not over by the cycle, or the length of the list where there
-- is none
pub record IsCurrent (placed : List Placed) (c slot place : ℕ) : Type 0 where
  pub within : place ≤ length placed
  pub passed : IsPlacePassed placed c slot place
  pub of_slot : (p : Placed) → slice_get placed place ≡ Some p → p.entry.slot ≡ slot
  pub not_over : (p : Placed) → slice_get placed place ≡ Some p → is_over c p ≡ false

-- the slots of the entries are below this number
abbrev pub AreSlotsBelow : ℕ → List Placed → Type 0
AreSlotsBelow slots placed = All (λ p. p.entry.slot < slots) placed

-- for each slot below `slots` there is a place before which its entries are over
pub record ArePassed (placed : List Placed) (c slots : ℕ) (places : List ℕ) : Type 0 where
  pub count : length places ≡ most_slots
  pub each : (slot : ℕ) → slot < slots → IsPlacePassed placed c slot (slice_index_or places slot 0)

-- for each slot below `slots` there is the place of its current entry
pub record AreCurrent (placed : List Placed) (c slots : ℕ) (places : List ℕ) : Type 0 where
  pub count : length places ≡ most_slots
  pub each : (slot : ℕ) → slot < slots → IsCurrent placed c slot (slice_index_or places slot 0)

-- Instances

-- the cycle in which an instance is released
abbrev pub released_at : Instance → ℕ
released_at i = release_of i.placed i.number

-- the release of the instance of a placed entry, where there is one, that may be sent in a cycle
abbrev pub release_by : ℕ → Placed → Option ℕ
release_by c p = option_map (λ k. released_at (record { placed = p; number = k })) (instance_of p c)
