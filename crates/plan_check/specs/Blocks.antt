-- What the slots do in a block, which is some cycles one after the other: words for contracts inside the crate.
use Rattle.std.specs.Prelude.{◌≡◌, ◌≢◌, ℕ, ◌+◌, ◌-◌, ◌%◌, ◌<◌, Bool, true, false, ◌&&◌, ◌||◌, nat_eq, nat_le, List, All, IsSome, slice_index_or}
use Rattle.std.specs.Option.{option_map_or}
use Rattle.requirement_table.specs.declared.entries.Placed.{Placed}
use Rattle.requirement_table.specs.Instance.{deadline_of, instance_of}
use Rattle.bit_sets.specs.Sets.{has_bit, most_slots}
use Rattle.requirement_table.specs.Table.{instance_in, is_last_in, releases_in, worst_in}
use Rattle.plan_check.specs.declared.blocks.Block.{Block}
use Rattle.plan_check.specs.declared.blocks.LastBlock.{LastBlock}
use Rattle.plan_check.specs.PlanKept.{goes_round}

-- whether a cycle is `first`, or some whole steps after it
abbrev pub meets : ℕ → ℕ → ℕ → Bool
meets first step c = nat_le first c && nat_eq ((c - first) % step) 0

-- whether an instance of the entry has its last cycle in `c`
abbrev pub ends_by : Placed → ℕ → Bool
ends_by p c = option_map_or (λ k. nat_eq (deadline_of p k) (c + 1)) (instance_of p c) false

-- whether a slot stands in the i-th of some sets
abbrev pub has_at : List ℕ → ℕ → ℕ → Bool
has_at sets i slot = has_bit (slice_index_or sets i 0) slot

-- of so many sets, those that pass the test have the slots of `one` besides what stood in them, and the others are as
-- before
abbrev pub AreMarked : ℕ → (ℕ → Bool) → ℕ → List ℕ → List ℕ → Type 0
AreMarked count test one old new =
    (i slot : ℕ) → i < count → has_at new i slot ≡ (has_at old i slot || (has_bit one slot && test i))

-- the block says of a slot what it does in the cycles from `from` on, so many: in which of them it releases an
-- instance, in which an instance has its last cycle, and what an instance costs that may be sent in one of them
pub record IsFilledFor (placed : List Placed) (from count slot : ℕ) (block : Block) : Type 0 where
  pub released : (i : ℕ) → i < count → has_at block.released i slot ≡ releases_in placed (from + i) slot
  pub ends : (i : ℕ) → i < count → has_at block.ends i slot ≡ is_last_in placed (from + i) slot
  pub cost : (i : ℕ) → i < count → IsSome (instance_in placed slot (from + i))
      → slice_index_or block.costs slot 0 ≡ worst_in placed (from + i) slot

-- the block says so of each slot
abbrev pub IsFilled : List Placed → ℕ → ℕ → Block → Type 0
IsFilled placed from count block = (slot : ℕ) → slot < most_slots → IsFilledFor placed from count slot block

-- where the last block is said to repeat, it says of the same number of cycles from this one on what the slots do in
-- them, and all entries go round with these cycles
abbrev pub IsLastBlock : List Placed → ℕ → LastBlock → Type 0
IsLastBlock placed c last = last.repeats ≡ true
    → IsFilled placed c last.cycles last.block × All (λ p. goes_round c last.cycles p ≡ true) placed

-- the slot stands in none of so many sets
pub record IsClearFor (count slot : ℕ) (block : Block) : Type 0 where
  pub released : (i : ℕ) → i < count → has_at block.released i slot ≡ false
  pub ends : (i : ℕ) → i < count → has_at block.ends i slot ≡ false

-- of the other slots so many sets say what they said before
pub record IsSameButSlot (count slot : ℕ) (old new : Block) : Type 0 where
  pub released : (i other : ℕ) → i < count → other ≢ slot → has_at new.released i other ≡ has_at old.released i other
  pub ends : (i other : ℕ) → i < count → other ≢ slot → has_at new.ends i other ≡ has_at old.ends i other
  pub cost : (other : ℕ) → other ≢ slot → slice_index_or new.costs other 0 ≡ slice_index_or old.costs other 0
