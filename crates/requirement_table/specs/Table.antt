-- Lists of placed entries: when a list is well placed, and what its entries release and may send.
use Rattle.std.specs.Prelude.{◌≡◌, ℕ, zero, suc, ◌+◌, ◌-◌, ◌^◌, ◌<◌, ◌≤◌, Bool, false, not, ◌&&◌}
use Rattle.std.specs.Prelude.{◌||◌, nat_eq, nat_le, if◌then◌else◌, Option, None, Some, IfSome, IsSomeAnd}
use Rattle.std.specs.Prelude.{is_some, List, filter, All, AllPairs, slice_get, option_map}
use Rattle.std.specs.Option.{option_map_or}
use Rattle.std.specs.List.{list_any, filter_map}
use Rattle.profile.specs.Limits.{cycles_end}
use Rattle.requirement_table.specs.declared.entries.Placed.{Placed}
use Rattle.requirement_table.specs.declared.entries.Entry.{Entry}
use Rattle.requirement_table.specs.Instance.{Instance, deadline_of, instance_of, release_of, released_by, worst_of}
use Rattle.bit_sets.specs.Sets.{set_of, most_slots, sum_where}

-- the fields of an entry are in range; how many nodes there are is not known here
pub record IsEntry (entry : Entry) : Type 0 where
  pub slot : entry.slot < most_slots
  pub length : entry.length ≤ 8
  pub phase : entry.phase < 2 ^ 16
  pub period : entry.period < 2 ^ 16
  pub priority : entry.priority < 2 ^ 8
  pub some_time : 1 ≤ entry.deadline
  pub deadline : entry.deadline ≤ entry.period

-- the fields of a placed entry are in range
pub record IsInRange (p : Placed) : Type 0 where
  pub entry : IsEntry p.entry
  pub origin : p.origin < cycles_end
  pub end : IfSome p.end (λ end. (p.origin ≤ end) × (end < cycles_end))

-- the cycle from which the slot of a placed entry is free again: end + deadline - 1
abbrev pub free_from : Placed → Option ℕ
free_from p = option_map (λ end. end + p.entry.deadline - 1) p.end

-- the slot of a placed entry is free again at cycle `c`
abbrev pub IsFreeAt : Placed → ℕ → Type 0
IsFreeAt p c = IsSomeAnd (free_from p) (λ from. from ≤ c)

-- whether the entry is over by cycle `c`: its slot is free again, and none of its instances may be sent any more
abbrev pub is_over : ℕ → Placed → Bool
is_over c p = option_map_or (λ from. nat_le from c) (free_from p) false

-- the placed entries that are not over by cycle `c`, in their order
abbrev pub not_over : ℕ → List Placed → List Placed
not_over c placed = filter (λ p. not (is_over c p)) placed

-- those of them whose origin is before the cycle `until`: none of the others releases an instance before it
abbrev pub near_of : ℕ → ℕ → List Placed → List Placed
near_of since until placed = filter (λ p. not (nat_le until p.origin)) (not_over since placed)

-- of two entries in one slot the earlier one has an end and is free before the later one's origin
abbrev pub GoesBefore : Placed → Placed → Type 0
GoesBefore p q = p.entry.slot ≡ q.entry.slot → IsFreeAt p q.origin

-- all fields are in range, and in each slot each entry but the last has an end and is free before
-- the origin of those behind it
pub record IsWellPlaced (placed : List Placed) : Type 0 where
  pub in_range : All IsInRange placed
  pub in_order : AllPairs GoesBefore placed

-- the instance of this placed entry that may be sent in cycle `c`, where the entry has the slot
abbrev pub sendable : ℕ → ℕ → Placed → Option Instance
sendable slot c p =
    if nat_eq p.entry.slot slot then option_map (λ k. record { placed = p; number = k }) (instance_of p c) else None

-- the first instance of a slot that may be sent in cycle `c`; in a well placed list there is at most
-- one
abbrev pub instance_in : List Placed → ℕ → ℕ → Option Instance
instance_in placed slot c = slice_get (filter_map (sendable slot c) placed) 0

-- whether an instance of the slot is released in cycle `c`
abbrev pub releases_in : List Placed → ℕ → ℕ → Bool
releases_in placed c slot = list_any (λ p. nat_eq p.entry.slot slot && is_some (released_by p c)) placed

-- the set of the slots with an instance released in cycle `c`
abbrev pub released_in : List Placed → ℕ → ℕ
released_in placed c = set_of most_slots (releases_in placed c)

-- the slot's instance that may be sent in the cycle was released before it
pub record IsHeldFrom (placed : List Placed) (c slot : ℕ) : Type 0 where
  pub instance : Instance
  pub found : instance_in placed slot c ≡ Some instance
  pub before : release_of instance.placed instance.number < c

-- whether `c` is the last cycle in which the slot's instance may be sent that may be sent in it
abbrev pub is_last_in : List Placed → ℕ → ℕ → Bool
is_last_in placed c slot =
    option_map_or (λ i. nat_eq (deadline_of i.placed i.number) (c + 1)) (instance_in placed slot c) false

-- what the slot costs in cycle `c`, in bit times: the worst length of the frame of its instance that may be sent; 0
-- where there is none
abbrev pub worst_in : List Placed → ℕ → ℕ → ℕ
worst_in placed c slot = option_map_or worst_of (instance_in placed slot c) 0

-- what the slots of which `flagged` holds cost together in cycle `c`, in bit times
abbrev pub width_in : List Placed → ℕ → (ℕ → Bool) → ℕ
width_in placed c flagged = sum_where most_slots flagged (worst_in placed c)

-- whether the slot holds an instance, released before the cycle `from + n` and not sent before it: `held` are the slots
-- that hold one before `from`, and `flags c slot` says that the slot is sent in cycle `c`
unfoldable pub held_before : List Placed → (ℕ → ℕ → Bool) → ℕ → (ℕ → Bool) → ℕ → ℕ → Bool
held_before placed flags from held zero slot = held slot
held_before placed flags from held (suc n) slot =
    (held_before placed flags from held n slot || releases_in placed (from + n) slot) && not (flags (from + n) slot)
