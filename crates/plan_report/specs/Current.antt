-- Which entry of a slot may send in a cycle: words for contracts inside the crate.
use Rattle.std.specs.Prelude.{◌≡◌, ℕ, ◌<◌, true, List, length, Option, Some, None, slice_get, slice_index}
use Rattle.requirement_table.specs.declared.entries.Placed.{Placed}
use Rattle.requirement_table.specs.Instance.{instance_of}
use Rattle.bit_sets.specs.Sets.{most_slots}
use Rattle.requirement_table.specs.Table.{is_over}
use Rattle.plan_report.specs.declared.current.CurrentInstance.{CurrentInstance}

-- of each slot all entries before its place are over by the cycle
abbrev pub AreEntriesPassed : List Placed → List ℕ → ℕ → Type 0
AreEntriesPassed placed places cycle = (slot place : ℕ) (p : Placed) → slot < most_slots
    → place < slice_index places slot → slice_get placed place ≡ Some p
    → p.entry.slot ≡ slot → is_over cycle p ≡ true

-- no entry of the slot but that at the place has an instance that may be sent in the cycle
abbrev pub NoOther : List Placed → ℕ → ℕ → ℕ → Type 0
NoOther placed slot cycle place = (other : ℕ) (p : Placed)
    → slice_get placed other ≡ Some p → p.entry.slot ≡ slot → (other ≡ place → ⊥)
    → instance_of p cycle ≡ None

-- this is the entry of the slot, by its place, and the number of its instance, that may be sent in the cycle; and no
-- other has one
pub record IsTheOne (placed : List Placed) (slot cycle : ℕ) (found : CurrentInstance) : Type 0 where
  pub within : found.place < length placed
  pub here : slice_get placed found.place ≡ Some found.placed
  pub of_slot : found.placed.entry.slot ≡ slot
  pub instance : instance_of found.placed cycle ≡ Some found.number
  pub alone : NoOther placed slot cycle found.place

abbrev pub IsCurrentInstance : List Placed → ℕ → ℕ → Option CurrentInstance → Type 0
IsCurrentInstance placed slot cycle None = (place : ℕ) (p : Placed)
    → slice_get placed place ≡ Some p → p.entry.slot ≡ slot → instance_of p cycle ≡ None
IsCurrentInstance placed slot cycle (Some found) = IsTheOne placed slot cycle found
