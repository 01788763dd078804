-- A block that is filled, slot by slot.
use Rattle.std.proofs.Common.{◌≡◌, ◌≢◌, ℕ, ◌+◌, ◌<◌, ◌≤◌, Bool, true, false, Some, None, is_some, List, length, get_or, set, slice_get, sym, ◌∙◌, ⊎_elim, arith, get_or-set_other, get_or-set_same}
use Rattle.std.proofs.lemmas.Bool.{cases_lt}
use Rattle.requirement_table.specs.declared.entries.Placed.{Placed}
use Rattle.requirement_table.specs.Instance.{released_by, worst}
use Rattle.bit_sets.specs.Sets.{has_bit}
use Rattle.requirement_table.specs.Table.{IsWellPlaced, instance_in}
use Rattle.plan_check.specs.declared.blocks.Block.{Block}
use Rattle.plan_check.specs.Blocks.{AreMarked, IsClearFor, IsFilled, IsFilledFor, IsSameButSlot, ends_by, has_at}
use Rattle.plan_check.specs.Places.{AreSlotsBelow, IsCurrent}
use Rattle.plan_check.proofs.Current.{absent-instance, current-end}
use Rattle.plan_check.proofs.Entries.{cost-current, last-current, last-none, releases-current, releases-none}

only-marks : (count slot one i : ℕ) (test : ℕ → Bool) (old new : List ℕ) → AreMarked count test one old new → has_bit one slot ≡ true
    → i < count → has_at old i slot ≡ false → has_at new i slot ≡ test i
only-marks count slot one i test old new marked has below none = grind (arith, one)

-- a slot without an entry that is not over
nothing-filled : (placed : List Placed) (from count slot : ℕ) (block : Block) → IsWellPlaced placed
    → ((i : ℕ) → i < count → instance_in placed slot (from + i) ≡ None) → IsClearFor count slot block → IsFilledFor placed from count slot block
nothing-filled placed from count slot block well none clear = grind (arith, releases-none, last-none)

pub filled-none : (placed : List Placed) (from count slot place : ℕ) (block : Block) → IsWellPlaced placed
    → ((i : ℕ) → i < count → IsCurrent placed (from + i) slot place) → length placed ≤ place → IsClearFor count slot block
    → IsFilledFor placed from count slot block
filled-none placed from count slot place block well current at clear =
    nothing-filled placed from count slot block well (λ i below. current-end placed (from + i) slot place well (current i below) at) clear

-- a slot with such an entry
pub filled-some : (placed : List Placed) (from count slot place one : ℕ) (p : Placed) (old new : Block) → IsWellPlaced placed
    → ((i : ℕ) → i < count → IsCurrent placed (from + i) slot place) → slice_get placed place ≡ Some p → IsClearFor count slot old
    → has_bit one slot ≡ true → AreMarked count (λ i. is_some (released_by p (from + i))) one old.released new.released
    → AreMarked count (λ i. ends_by p (from + i)) one old.ends new.ends → get_or new.costs slot 0 ≡ worst p.entry.length
    → IsFilledFor placed from count slot new
filled-some placed from count slot place one p old new well current at clear has released ends cost_is = record {
  released = λ i below.
      only-marks count slot one i (λ j. is_some (released_by p (from + j))) old.released new.released released has below (clear.released i below)
      ∙ sym (releases-current placed (from + i) slot place well (current i below) p at);
  ends = λ i below.
      only-marks count slot one i (λ j. ends_by p (from + j)) old.ends new.ends ends has below (clear.ends i below)
      ∙ sym (last-current placed (from + i) slot place well (current i below) p at);
  cost = λ i below some. cost_is ∙ sym (cost-current placed (from + i) slot place well (current i below) p at some);
}

-- the other slots are as before
same-filled : (placed : List Placed) (from count slot other : ℕ) (old new : Block) → IsSameButSlot count slot old new → other ≢ slot
    → IsFilledFor placed from count other old → IsFilledFor placed from count other new
same-filled placed from count slot other old new same apart filled = grind arith

same-clear : (count slot other : ℕ) (old new : Block) → IsSameButSlot count slot old new → other ≢ slot → IsClearFor count other old
    → IsClearFor count other new
same-clear count slot other old new same apart clear = grind arith

-- one slot further
pub filled-next : (placed : List Placed) (from count slot : ℕ) (old new : Block) → IsSameButSlot count slot old new
    → IsFilledFor placed from count slot new → ((s : ℕ) → s < slot → IsFilledFor placed from count s old)
    → (s : ℕ) → s < slot + 1 → IsFilledFor placed from count s new
filled-next placed from count slot old new same here before s low = grind (arith, same-filled)

pub clear-next : (count slot : ℕ) (old new : Block) → IsSameButSlot count slot old new → ((s : ℕ) → slot ≤ s → IsClearFor count s old)
    → (s : ℕ) → slot + 1 ≤ s → IsClearFor count s new
clear-next count slot old new same clear s high = same-clear count slot s old new same (λ is. omega arith) (clear s (omega arith))

-- slots above those of the entries do nothing
pub filled-whole : (placed : List Placed) (from count slots n : ℕ) (block : Block) → IsWellPlaced placed → AreSlotsBelow slots placed → slots ≡ n
    → ((s : ℕ) → s < n → IsFilledFor placed from count s block) → ((s : ℕ) → n ≤ s → IsClearFor count s block) → IsFilled placed from count block
filled-whole placed from count slots n block well below all filled clear = λ s known.
    ⊎_elim
    (λ (low : s < n). filled s low)
    (λ (high : n ≤ s). grind (arith, nothing-filled, absent-instance))
    (cases_lt s n)

-- Sets that are emptied

pub emptied-next : (k slot empty other : ℕ) (block : Block) → has_bit empty slot ≡ false → has_bit other slot ≡ false
    → k < length block.released → k < length block.ends → IsClearFor k slot block
    → IsClearFor (k + 1) slot (record { released = set block.released k empty; ends = set block.ends k other; costs = block.costs })
emptied-next k slot empty other block none nothing within also clear = record {
  released = one block.released empty none within clear.released;
  ends = one block.ends other nothing also clear.ends;
}
  where
    one : (sets : List ℕ) (x : ℕ) → has_bit x slot ≡ false → k < length sets → ((i : ℕ) → i < k → has_at sets i slot ≡ false)
        → (i : ℕ) → i < k + 1 → has_at (set sets k x) i slot ≡ false
    one sets x free room before i low = grind (arith, get_or-set_same, get_or-set_other)
