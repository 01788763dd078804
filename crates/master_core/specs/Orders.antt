-- The order of the next cycle after a history.
use Rattle.std.specs.Prelude.{◌≡◌, ℕ, ◌+◌, ◌^◌, ◌<◌, ◌≤◌, true, List, Option, Some, None, if◌then◌else◌}
use Rattle.requirement_table.specs.declared.entries.Order.{Order}
use Rattle.requirement_table.specs.declared.entries.Placed.{Placed}
use Rattle.requirement_table.specs.Instance.{Instance}
use Rattle.bit_sets.specs.Sets.{has_bit, most_slots}
use Rattle.requirement_table.specs.Table.{IsWellPlaced, instance_in, width_in}
use Rattle.planner_policies.specs.Plan.{mask_at, pending_at}
use Rattle.admission_rules.specs.declared.Rules.{Rules}
use Rattle.master_core.specs.declared.event.Event.{Event}
use Rattle.master_core.specs.declared.upcoming.Upcoming.{Upcoming}
use Rattle.master_core.specs.History.{is_changed, learned_of, next_of, placed_of, plan_of}

-- a list stands for the whole one from a cycle on: in that cycle, and in each later one, the same instance of each slot
-- may be sent by both
pub record StandsFor (cycle : ℕ) (whole list : List Placed) : Type 0 where
  pub well_placed : IsWellPlaced list
  pub instances : (slot at : ℕ) → cycle ≤ at → instance_in list slot at ≡ instance_in whole slot at

-- what the nodes are to learn after a history, of this list: all of it where a change was accepted since the last
-- opening, and else nothing
abbrev pub learned_as : List Event → List Placed → Option (List Placed)
learned_as history list = if is_changed history then Some list else None

-- the order of the next cycle after a history, for nodes that learn this list: the plan's slots, the length of their
-- window, and what the nodes are to learn
pub record IsOrderWith (rules : Rules) (history : List Event) (list : List Placed) (order : Order) : Type 0 where
  pub cycle : order.cycle ≡ next_of history
  pub mask : order.mask ≡ mask_at (plan_of rules (placed_of history)) (next_of history)
  pub window : order.l ≡ width_in (placed_of history) (next_of history) (has_bit order.mask)
  pub learned : order.learned ≡ learned_as history list
  -- it can be run: the window is not above the largest one, and each flagged slot is one of the rules, and has an
  -- instance that may be sent in the cycle
  pub fits : order.l ≤ rules.window
  pub slots : order.mask < 2 ^ rules.slots
  pub present : (slot : ℕ) → slot < most_slots → has_bit order.mask slot ≡ true
      → (i : Instance) × (instance_in (placed_of history) slot (next_of history) ≡ Some i)

-- the order of the next cycle after a history, where the nodes learn all placed entries
abbrev pub IsOrder : Rules → List Event → Order → Type 0
IsOrder rules history order = IsOrderWith rules history (placed_of history) order

-- the order of the next cycle after a history, where the nodes learn a list that stands for the placed entries
pub record IsOrderFor (rules : Rules) (history : List Event) (order : Order) : Type 0 where
  pub list : List Placed
  pub stands : StandsFor (next_of history) (placed_of history) list
  pub is : IsOrderWith rules history list order

-- what is upcoming after a history
pub record IsUpcoming (rules : Rules) (history : List Event) (upcoming : Upcoming) : Type 0 where
  -- with it the order of the next cycle is made
  pub order : IsOrder rules history
      (record { cycle = next_of history; mask = upcoming.mask; l = upcoming.l; learned = learned_of history })
  -- the state behind it
  pub next : upcoming.next.cycle ≡ next_of history + 1
  pub pending : upcoming.next.pending ≡ pending_at (plan_of rules (placed_of history)) (next_of history + 1)
