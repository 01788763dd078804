-- Plans: which slots are planned in which cycle, by a policy and a filling. Cycles are elementary cycles, lengths are
-- bit times.
--
-- The words are over tests of slots. A slot stands for its instance that may be sent in the cycle: there is at most
-- one, in a list that is well placed. All words are total, also behind a first miss, and are cited where there is none.
use Rattle.std.specs.Prelude.{◌≡◌, ℕ, zero, suc, ◌+◌, ◌-◌, ◌<◌, Bool, true, false, not, ◌&&◌, ◌||◌}
use Rattle.std.specs.Prelude.{nat_lt, nat_le, nat_eq, List, Some}
use Rattle.std.specs.Option.{option_map_or}
use Rattle.requirement_table.specs.declared.entries.Placed.{Placed}
use Rattle.requirement_table.specs.Instance.{Instance, deadline_of, release_of}
use Rattle.bit_sets.specs.Sets.{has_bit, set_of, most_slots}
use Rattle.requirement_table.specs.Table.{IsHeldFrom, instance_in, is_last_in, releases_in, width_in, worst_in}
use Rattle.planner_policies.specs.declared.Fill.{Fill}
use Rattle.planner_policies.specs.declared.Fill.TheVariants.{Prefix, Skip}
use Rattle.planner_policies.specs.declared.Policy.{Policy}
use Rattle.planner_policies.specs.declared.Policy.TheVariants.{Rm, Dm, Edf}

-- what is planned: the placed entries, by which policy and with which filling, the length of the largest synchronous
-- window, the first cycle that is planned, and the set of the slots with an instance that was released before it and is
-- not planned yet
pub record Planning : Type 0 where
  pub placed : List Placed
  pub policy : Policy
  pub fill : Fill
  pub window : ℕ
  pub from : ℕ
  pub pending : ℕ

-- a list of placed entries, the policy that orders their instances, and the filling that takes of them
pub record Ranking : Type 0 where
  pub placed : List Placed
  pub policy : Policy
  pub fill : Fill

-- the planning of such a list within a window, from a cycle on, before which the slots of the set are pending
abbrev pub planning_of : Ranking → ℕ → ℕ → ℕ → Planning
planning_of ranking window from pending = record {
  placed = ranking.placed;
  policy = ranking.policy;
  fill = ranking.fill;
  window = window;
  from = from;
  pending = pending;
}

-- where a planning stands: the ranking that is planned, the cycle that is planned next, and the set of the slots with
-- an instance that was released before it and is not planned yet
pub record Standing : Type 0 where
  pub ranking : Ranking
  pub cycle : ℕ
  pub pending : ℕ

-- the planning that goes on from there within a window
abbrev pub going_from : Standing → ℕ → Planning
going_from standing window = planning_of standing.ranking window standing.cycle standing.pending

-- Key order

-- the number that a policy looks at first; the least goes first
abbrev pub key_of : Policy → Instance → ℕ
key_of Rm i = i.placed.entry.period
key_of Dm i = i.placed.entry.deadline
key_of Edf i = deadline_of i.placed i.number

-- that number of a slot in a cycle, and the priority of the slot's entry
abbrev pub key_in : Policy → List Placed → ℕ → ℕ → ℕ
key_in policy placed c slot = option_map_or (key_of policy) (instance_in placed slot c) 0

abbrev pub priority_in : List Placed → ℕ → ℕ → ℕ
priority_in placed c slot = option_map_or (λ i. i.placed.entry.priority) (instance_in placed slot c) 0

-- the first number decides, and where both are equal the rest
abbrev pub by_number : ℕ → ℕ → Bool → Bool
by_number one other rest = nat_lt one other || (nat_eq one other && rest)

-- *Key order*: whether slot `one` is slot `other` or goes before it, by key, then priority, then slot
abbrev pub is_by : Policy → List Placed → ℕ → ℕ → ℕ → Bool
is_by policy placed c one other =
    by_number (key_in policy placed c one) (key_in policy placed c other)
    (by_number (priority_in placed c one) (priority_in placed c other) (nat_le one other))

-- One cycle, where the slots of which `before` holds have an instance that was released before it and not planned
-- before it

-- the slots with an instance that is pending in the cycle: one of these, or one that is released in it
abbrev pub pending_in : List Placed → ℕ → (ℕ → Bool) → ℕ → Bool
pending_in placed c before slot = before slot || releases_in placed c slot

-- whether slot `one` goes before slot `other` in key order
abbrev pub goes_before : Policy → List Placed → ℕ → ℕ → ℕ → Bool
goes_before policy placed c one other = not (is_by policy placed c other one)

-- the filling `Prefix` takes a pending slot where all pending ones up to it in key order, itself included, fit the
-- window together: so what is taken is the longest front, in key order, that fits
abbrev pub is_in_front : Policy → ℕ → List Placed → ℕ → (ℕ → Bool) → ℕ → Bool
is_in_front policy window placed c pending slot =
    pending slot && nat_le (width_in placed c (λ other. pending other && is_by policy placed c other slot)) window

-- the filling `Skip` takes a pending slot where its worst length and those of the taken slots before it in key order sum
-- to at most the window. `n` bounds how deep this is asked: it changes nothing where fewer than `n` slots go before the
-- slot
unfoldable pub is_fitting : ℕ → Policy → ℕ → List Placed → ℕ → (ℕ → Bool) → ℕ → Bool
is_fitting zero policy window placed c pending slot = false
is_fitting (suc n) policy window placed c pending slot =
    pending slot
    && nat_le (worst_in placed c slot
    + width_in placed c (λ other. is_fitting n policy window placed c pending other
    && goes_before policy placed c other slot)) window

-- which of the pending slots a filling takes
unfoldable pub is_taken : Policy → Fill → ℕ → List Placed → ℕ → (ℕ → Bool) → ℕ → Bool
is_taken policy Prefix window placed c pending slot = is_in_front policy window placed c pending slot
is_taken policy Skip window placed c pending slot = is_fitting most_slots policy window placed c pending slot

-- the slots that are planned in a cycle, and those that are left
abbrev pub planned_in : Planning → ℕ → (ℕ → Bool) → ℕ → Bool
planned_in plan c before slot =
    is_taken plan.policy plan.fill plan.window plan.placed c (pending_in plan.placed c before) slot

abbrev pub left_after : Planning → ℕ → (ℕ → Bool) → ℕ → Bool
left_after plan c before slot = pending_in plan.placed c before slot && not (planned_in plan c before slot)

-- whether the slot's instance is left in a cycle that is its last one
abbrev pub is_missed_in : Planning → ℕ → (ℕ → Bool) → ℕ → Bool
is_missed_in plan c before slot = left_after plan c before slot && is_last_in plan.placed c slot

-- the least slot with an instance that is missed in a cycle, and the cycle of the instance's release
pub record IsMissIn (plan : Planning) (c : ℕ) (before : ℕ → Bool) (slot release : ℕ) : Type 0 where
  pub known : slot < most_slots
  pub missed : is_missed_in plan c before slot ≡ true
  pub least : (other : ℕ) → other < slot → is_missed_in plan c before other ≡ false
  pub instance : Instance
  pub found : instance_in plan.placed slot c ≡ Some instance
  pub released : release ≡ release_of instance.placed instance.number

-- no instance is missed in a cycle
abbrev pub HasNoMissIn : Planning → ℕ → (ℕ → Bool) → Type 0
HasNoMissIn plan c before = (slot : ℕ) → slot < most_slots → is_missed_in plan c before slot ≡ false

-- Cycle after cycle: the n-th cycle of a planning, counted from 0, is `from + n`

-- whether the slot has an instance that was released before the n-th cycle and not planned before it
unfoldable pub pending_before : Planning → ℕ → ℕ → Bool
pending_before plan zero slot = has_bit plan.pending slot
pending_before plan (suc n) slot = left_after plan (plan.from + n) (pending_before plan n) slot

-- *Plan*: whether the slot is planned in the n-th cycle, and the set of these slots
abbrev pub planned_at : Planning → ℕ → ℕ → Bool
planned_at plan n slot = planned_in plan (plan.from + n) (pending_before plan n) slot

abbrev pub mask_at : Planning → ℕ → ℕ
mask_at plan n = set_of most_slots (planned_at plan n)

-- the set of the slots that are pending before the n-th cycle
abbrev pub pending_at : Planning → ℕ → ℕ
pending_at plan n = set_of most_slots (pending_before plan n)

-- whether the slot's instance is left in the n-th cycle, which is its last one
abbrev pub is_missed_at : Planning → ℕ → ℕ → Bool
is_missed_at plan n slot = is_missed_in plan (plan.from + n) (pending_before plan n) slot

-- no instance is missed in the first n cycles
abbrev pub HasNoMiss : Planning → ℕ → Type 0
HasNoMiss plan n = (m slot : ℕ) → m < n → slot < most_slots → is_missed_at plan m slot ≡ false

-- no instance is ever missed
abbrev pub NeverMisses : Planning → Type 0
NeverMisses plan = (m slot : ℕ) → slot < most_slots → is_missed_at plan m slot ≡ false

-- the least slot with an instance that is missed in the n-th cycle, and the cycle of the instance's release
abbrev pub IsMissAt : Planning → ℕ → ℕ → ℕ → Type 0
IsMissAt plan n slot release = IsMissIn plan (plan.from + n) (pending_before plan n) slot release

-- *First miss*: the one with the least last cycle, and in that with the least slot
pub record IsFirstMiss (plan : Planning) (slot release cycle : ℕ) : Type 0 where
  pub number : ℕ
  pub at : cycle ≡ plan.from + number
  pub none_before : HasNoMiss plan number
  pub miss : IsMissAt plan number slot release

-- which slots are planned, by the number of the cycle itself
abbrev pub flags_of : Planning → ℕ → ℕ → Bool
flags_of plan c slot = planned_at plan (c - plan.from) slot

-- *Valid*: each pending slot has an instance that was released before the cycle and whose last cycle is not below it
abbrev pub IsValid : List Placed → ℕ → ℕ → Type 0
IsValid placed c pending = (slot : ℕ) → has_bit pending slot ≡ true → IsHeldFrom placed c slot
