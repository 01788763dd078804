-- Breaches in one cycle, by sets of slots: words for contracts inside the crate. The slots in `held` have an instance
-- that was released before the cycle and not planned, those in `released` have one that is released in it, those in
-- `ends` have one whose last cycle it is, and the cycle flags those in `mask`.
use Rattle.std.specs.Prelude.{◌≡◌, ℕ, ◌<◌, ◌≤◌, Bool, not, ◌&&◌, ◌||◌, List, Some, length, slice_index_or}
use Rattle.requirement_table.specs.declared.entries.Placed.{Placed}
use Rattle.requirement_table.specs.Instance.{Instance, release_of}
use Rattle.bit_sets.specs.Sets.{has_bit, most_slots, sum_where}
use Rattle.requirement_table.specs.Table.{instance_in}
use Rattle.plan_check.specs.declared.breach.Breach.{Breach}
use Rattle.plan_check.specs.declared.breach.Breach.TheVariants.{BadLoop, NotReleased, TooWide, Missed, NotClosed}
use Rattle.plan_check.specs.PlanKept.{NoSlot}
use Rattle.plan_check.specs.Breaches.{IsLeastSlot}

-- whether the slot has an instance that is not planned before the cycle
abbrev pub waits_in : ℕ → ℕ → ℕ → Bool
waits_in released held slot = has_bit held slot || has_bit released slot

abbrev pub unreleased_in : ℕ → ℕ → ℕ → ℕ → Bool
unreleased_in released held mask slot = has_bit mask slot && not (waits_in released held slot)

abbrev pub missed_in : ℕ → ℕ → ℕ → ℕ → ℕ → Bool
missed_in released ends held mask slot =
    waits_in released held slot && has_bit ends slot && not (has_bit mask slot)

-- what is kept of what the slots cost: there is a place for each bit of two words, and no slot costs more than 255 bit
-- times
pub record AreCosts (costs : List ℕ) : Type 0 where
  pub count : length costs ≡ 128
  pub small : (slot : ℕ) → slice_index_or costs slot 0 ≤ 255

-- what the slots of a set cost together, in bit times
abbrev pub width_of : List ℕ → ℕ → ℕ
width_of costs mask = sum_where most_slots (has_bit mask) (λ slot. slice_index_or costs slot 0)

-- the cycle has no breach
pub record IsGoodIn (costs : List ℕ) (window released ends held mask : ℕ) : Type 0 where
  pub holding : NoSlot (unreleased_in released held mask)
  pub fits : width_of costs mask ≤ window
  pub in_time : NoSlot (missed_in released ends held mask)

pub record IsWideIn (costs : List ℕ) (window c released held mask cycle sum : ℕ) : Type 0 where
  pub at : cycle ≡ c
  pub holding : NoSlot (unreleased_in released held mask)
  pub sum_is : sum ≡ width_of costs mask
  pub wide : window < sum

pub record IsMissedIn (placed : List Placed) (costs : List ℕ) (window c released ends held mask slot release cycle : ℕ)
    : Type 0 where
  pub at : cycle ≡ c
  pub holding : NoSlot (unreleased_in released held mask)
  pub fits : width_of costs mask ≤ window
  pub slot_is : IsLeastSlot (missed_in released ends held mask) slot
  pub instance : Instance
  pub found : instance_in placed slot c ≡ Some instance
  pub release_is : release ≡ release_of instance.placed instance.number

-- the breach is the first one of the cycle
abbrev pub IsBreachIn : List Placed → List ℕ → ℕ → ℕ → ℕ → ℕ → ℕ → ℕ → Breach → Type 0
IsBreachIn placed costs window c released ends held mask (BadLoop slot) = ⊥
IsBreachIn placed costs window c released ends held mask (NotReleased cycle slot) =
    (cycle ≡ c) × IsLeastSlot (unreleased_in released held mask) slot
IsBreachIn placed costs window c released ends held mask (TooWide cycle sum) =
    IsWideIn costs window c released held mask cycle sum
IsBreachIn placed costs window c released ends held mask (Missed slot release cycle) =
    IsMissedIn placed costs window c released ends held mask slot release cycle
IsBreachIn placed costs window c released ends held mask (NotClosed slot) = ⊥
