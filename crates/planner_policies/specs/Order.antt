-- What is planned, said over the pending slots in key order. Lengths are bit times.
use Rattle.std.specs.Prelude.{◌≡◌, ◌≢◌, ℕ, ◌+◌, ◌<◌, ◌≤◌, Bool, true, ◌&&◌, ◌↔◌}
use Rattle.std.specs.Prelude.{List, All, AllPairs, Contains, length, sum_by, take}
use Rattle.bit_sets.specs.Sets.{most_slots}
use Rattle.requirement_table.specs.Table.{width_in, worst_in}
use Rattle.planner_policies.specs.Plan.{Planning, goes_before, is_by, pending_in}

-- the slots that are pending in a cycle, each once, in key order
pub record IsInKeyOrder (plan : Planning) (c : ℕ) (before : ℕ → Bool) (order : List ℕ) : Type 0 where
  pub known : All (λ slot. slot < most_slots) order
  pub distinct : AllPairs (λ one other. one ≢ other) order
  pub in_order : AllPairs (λ one other. is_by plan.policy plan.placed c one other ≡ true) order
  pub pending : (slot : ℕ) → slot < most_slots → (pending_in plan.placed c before slot ≡ true) ↔ Contains order slot

-- the first n of the slots fit the window together, and no more of them do
pub record IsLongestFront (cost : ℕ → ℕ) (window : ℕ) (order : List ℕ) (n : ℕ) : Type 0 where
  pub within : n ≤ length order
  pub fits : sum_by cost (take n order) ≤ window
  pub longest : (m : ℕ) → m ≤ length order → sum_by cost (take m order) ≤ window → m ≤ n

-- there is such a list of the slots that are pending in the cycle, and such a number of its first ones
pub record HasLongestFront (plan : Planning) (c : ℕ) (before : ℕ → Bool) : Type 0 where
  pub order : List ℕ
  pub number : ℕ
  pub sorted : IsInKeyOrder plan c before order
  pub front : IsLongestFront (worst_in plan.placed c) plan.window order number

-- what the slot and the slots before it in key order of which the test holds cost together
abbrev pub width_with : Planning → ℕ → (ℕ → Bool) → ℕ → ℕ
width_with plan c test slot =
    worst_in plan.placed c slot
    + width_in plan.placed c (λ other. test other && goes_before plan.policy plan.placed c other slot)

-- the test holds of a slot exactly where the slot is pending, and its worst length and those of the slots before it in
-- key order of which the test holds sum to at most the window
abbrev pub TakesWhatFits : Planning → ℕ → (ℕ → Bool) → (ℕ → Bool) → Type 0
TakesWhatFits plan c before test = (slot : ℕ) → slot < most_slots
    → (test slot ≡ true) ↔ ((pending_in plan.placed c before slot ≡ true) × (width_with plan c test slot ≤ plan.window))
