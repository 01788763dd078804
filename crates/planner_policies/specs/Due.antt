-- What the code keeps of an instance that is pending in a cycle: words for contracts inside the crate.
use Rattle.std.specs.Prelude.{◌≡◌, ◌≢◌, ℕ, ◌+◌, ◌-◌, ◌^◌, ◌<◌, ◌≤◌, Bool, true, false, ◌||◌, ◌&&◌}
use Rattle.std.specs.Prelude.{nat_eq, nat_le, nat_lt, if◌then◌else◌, List, [], ◌∷◌, ◌++◌, All}
use Rattle.std.specs.Prelude.{AllPairs, Any, length, sum_by, take, Option, Some, None}
use Rattle.std.specs.List.{list_any}
use Rattle.std.specs.Option.{option_map_or}
use Rattle.requirement_table.specs.declared.entries.Placed.{Placed}
use Rattle.requirement_table.specs.Instance.{Instance, MaySend, deadline_of, instance_of, release_of, worst_of}
use Rattle.bit_sets.specs.Sets.{has_bit, most_slots, set_of}
use Rattle.requirement_table.specs.Table.{instance_in, width_in}
use Rattle.planner_policies.specs.declared.Fill.{Fill}
use Rattle.planner_policies.specs.declared.Fill.TheVariants.{Prefix, Skip}
use Rattle.planner_policies.specs.declared.Policy.{Policy}
use Rattle.planner_policies.specs.declared.Policy.TheVariants.{Rm, Dm, Edf}
use Rattle.planner_policies.specs.declared.state.Miss.{Miss}
use Rattle.planner_policies.specs.declared.due.Due.{Due}
use Rattle.planner_policies.specs.Plan.{HasNoMissIn, Planning, by_number, key_of, left_after, pending_in, planned_in}

-- what is kept of an instance
pub record IsOf (policy : Policy) (i : Instance) (due : Due) : Type 0 where
  pub key : due.key ≡ key_of policy i
  pub priority : due.priority ≡ i.placed.entry.priority
  pub slot : due.slot ≡ i.placed.entry.slot
  pub cost : due.cost ≡ worst_of i
  pub release : due.release ≡ release_of i.placed i.number
  pub last : due.last + 1 ≡ deadline_of i.placed i.number

-- the instance of an entry that may be sent in a cycle is pending in it: it was pending before, or is released in it
abbrev pub waits : (ℕ → Bool) → ℕ → Placed → ℕ → Bool
waits before c p k = before p.entry.slot || nat_eq (release_of p k) c

-- what an entry has to send in a cycle: its instance that is pending in it, or nothing
pub record IsPending (policy : Policy) (before : ℕ → Bool) (c : ℕ) (p : Placed) (due : Due) : Type 0 where
  pub number : ℕ
  pub sends : MaySend p number c
  pub waiting : waits before c p number ≡ true
  pub is : IsOf policy (record { placed = p; number = number }) due

-- an instance that waits in the cycle was released then
pub record IsReleaseWaiting (before : ℕ → Bool) (c : ℕ) (p : Placed) (release : ℕ) : Type 0 where
  pub number : ℕ
  pub may : MaySend p number c
  pub waiting : waits before c p number ≡ true
  pub is : release ≡ release_of p number

abbrev pub IsDueOf : Policy → (ℕ → Bool) → ℕ → Placed → Option Due → Type 0
IsDueOf policy before c p None = (k : ℕ) → MaySend p k c → waits before c p k ≡ false
IsDueOf policy before c p (Some due) = IsPending policy before c p due

-- key order, over what is kept
abbrev pub is_due_by : Due → Due → Bool
is_due_by one other = by_number one.key other.key (by_number one.priority other.priority (nat_le one.slot other.slot))

abbrev pub IsLined : List Due → Type 0
IsLined line = AllPairs (λ one other. is_due_by one other ≡ true) line

-- it is kept of the slot's instance, which is pending in the cycle
pub record IsDueIn (plan : Planning) (c : ℕ) (before : ℕ → Bool) (due : Due) : Type 0 where
  pub known : due.slot < most_slots
  pub pending : pending_in plan.placed c before due.slot ≡ true
  pub instance : Instance
  pub found : instance_in plan.placed due.slot c ≡ Some instance
  pub is : IsOf plan.policy instance due

-- the key of an instance of an entry, by its deadline
abbrev pub key_with : Policy → Placed → ℕ → ℕ
key_with Rm p deadline = p.entry.period
key_with Dm p deadline = p.entry.deadline
key_with Edf p deadline = deadline

-- one more is put behind those that are by it, before the others
pub record IsPutIn (due : Due) (old new : List Due) : Type 0 where
  pub front : List Due
  pub back : List Due
  pub was : old ≡ front ++ back
  pub is : new ≡ front ++ (due ∷ back)
  pub before : All (λ other. is_due_by other due ≡ true) front
  pub behind : All (λ other. is_due_by other due ≡ false) back

-- whether an entry of the slot has an instance that was released before the cycle and may be sent in it
abbrev pub is_held_in : ℕ → Placed → Bool
is_held_in c p = option_map_or (λ k. nat_lt (release_of p k) c) (instance_of p c) false

abbrev pub holds_of : ℕ → ℕ → Placed → Bool
holds_of c slot p = nat_eq p.entry.slot slot && is_held_in c p

-- what is kept of all instances that are pending in a cycle, in key order
pub record IsWholeLine (plan : Planning) (c : ℕ) (before : ℕ → Bool) (line : List Due) : Type 0 where
  pub each : All (IsDueIn plan c before) line
  pub distinct : AllPairs (λ one other. one.slot ≢ other.slot) line
  pub lined : IsLined line
  pub all : (slot : ℕ) → slot < most_slots → pending_in plan.placed c before slot ≡ true
      → list_any (λ due. nat_eq due.slot slot) line ≡ true

-- the first n fit the window together, and one more does not
pub record IsLongestFit (window : ℕ) (line : List Due) (n : ℕ) : Type 0 where
  pub within : n ≤ length line
  pub fits : sum_by (λ due. due.cost) (take n line) ≤ window
  pub next : n < length line → window < sum_by (λ due. due.cost) (take (n + 1) line)

-- what a filling takes of a line, and what it leaves, where so much of the window is left
abbrev pub taken_of : Fill → ℕ → List Due → List Due
taken_of fill room [] = []
taken_of Prefix room (due ∷ line) = if nat_le due.cost room then due ∷ taken_of Prefix (room - due.cost) line else []
taken_of Skip room (due ∷ line) =
    if nat_le due.cost room then due ∷ taken_of Skip (room - due.cost) line else taken_of Skip room line

abbrev pub left_of : Fill → ℕ → List Due → List Due
left_of fill room [] = []
left_of Prefix room (due ∷ line) = if nat_le due.cost room then left_of Prefix (room - due.cost) line else due ∷ line
left_of Skip room (due ∷ line) =
    if nat_le due.cost room then left_of Skip (room - due.cost) line else due ∷ left_of Skip room line

-- the set of the slots of instances
pub record IsSetOf (mask : ℕ) (line : List Due) : Type 0 where
  pub slots : (slot : ℕ) → has_bit mask slot ≡ list_any (λ due. nat_eq due.slot slot) line
  pub below : mask < 2 ^ most_slots

-- all that is pending in a cycle fits the window together: its slots, and what it costs
pub record IsAllFitting (plan : Planning) (c : ℕ) (before : ℕ → Bool) (mask width : ℕ) : Type 0 where
  pub line : List Due
  pub whole : IsWholeLine plan c before line
  pub slots : IsSetOf mask line
  pub cost : width ≡ sum_by (λ due. due.cost) line
  pub fits : width ≤ plan.window

-- of a miss, where there is one, and that of an instance in its last cycle, the one of the lesser slot
abbrev pub miss_of : Due → Miss
miss_of due = record { slot = due.slot; release = due.release; cycle = due.last }

abbrev pub lesser_miss : Option Miss → Due → Miss
lesser_miss None due = miss_of due
lesser_miss (Some miss) due = if nat_lt miss.slot due.slot then miss else miss_of due

-- of a miss, where there is one, and that of an instance where this is its last cycle, the one of the lesser slot
abbrev pub with_missed : ℕ → Option Miss → Due → Option Miss
with_missed c least due = if nat_eq due.last c then Some (lesser_miss least due) else least

-- the instance of the least slot of those whose last cycle this is
abbrev pub IsLeastMissed : ℕ → List Due → Option Miss → Type 0
IsLeastMissed c line None = All (λ due. due.last ≢ c) line
IsLeastMissed c line (Some miss) =
    Any (λ due. (due.last ≡ c) × (miss ≡ miss_of due)) line × All (λ due. due.last ≡ c → miss.slot ≤ due.slot) line

-- what a filling takes of a line in a cycle, and what it leaves: none of that is in its last cycle
pub record IsLineTaken (fill : Fill) (window : ℕ) (line : List Due) (c mask width next : ℕ) : Type 0 where
  pub planned : IsSetOf mask (taken_of fill window line)
  pub cost : width ≡ sum_by (λ due. due.cost) (taken_of fill window line)
  pub fits : width ≤ window
  pub left : IsSetOf next (left_of fill window line)
  pub none_missed : IsLeastMissed c (left_of fill window line) None

-- what is planned in a cycle, and the slots that are pending after it; no instance is missed
pub record IsPlanned (plan : Planning) (c : ℕ) (before : ℕ → Bool) (mask width next : ℕ) : Type 0 where
  pub planned : mask ≡ set_of most_slots (planned_in plan c before)
  pub width_is : width ≡ width_in plan.placed c (planned_in plan c before)
  pub fits : width ≤ plan.window
  pub left : next ≡ set_of most_slots (left_after plan c before)
  pub none_missed : HasNoMissIn plan c before
