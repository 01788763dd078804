-- The placed entries after a change. Cycles are elementary cycles, counted from 0.
use Rattle.std.specs.Prelude.{◌≡◌, ℕ, ◌+◌, ◌-◌, ◌≤◌, ◌⊎◌, Bool, ◌&&◌}
use Rattle.std.specs.Prelude.{nat_eq, max, if◌then◌else◌, Option, Some, None, is_none, List, [], ◌∷◌, ◌++◌, All, map}
use Rattle.std.specs.List.{filter_map, find, list_any}
use Rattle.std.specs.Option.{option_map_or}
use Rattle.requirement_table.specs.declared.entries.Entry.{Entry}
use Rattle.requirement_table.specs.declared.entries.Placed.{Placed}
use Rattle.requirement_table.specs.Instance.{Instance}
use Rattle.requirement_table.specs.Table.{free_from}
use Rattle.change_protocol.specs.declared.operations.Op.{Op}
use Rattle.change_protocol.specs.declared.operations.Op.TheVariants.{Add, Remove, Change}
use Rattle.change_protocol.specs.declared.operations.Change.{Change as TableChange}
use Rattle.change_protocol.specs.Operations.{ends}

-- the placed entry has the slot and is live
abbrev pub lives_in : ℕ → Placed → Bool
lives_in slot p = nat_eq p.entry.slot slot && is_none p.end

-- the live entry of a slot; in a well placed list there is at most one
abbrev pub live_in : List Placed → ℕ → Option Placed
live_in placed slot = find (lives_in slot) placed

-- the cycle from which the slot is free again after this entry of it, end + deadline - 1; 0 where the entry is live or
-- has another slot
abbrev pub freed_by : ℕ → Placed → ℕ
freed_by slot p = if nat_eq p.entry.slot slot then option_map_or (λ from. from) (free_from p) 0 else 0

-- the greatest end + deadline - 1 of the slot's entries; 0 where none of them has an end
abbrev pub free_in : List Placed → ℕ → ℕ
free_in [] slot = 0
free_in (p ∷ placed) slot = max (freed_by slot p) (free_in placed slot)

-- a placed entry after the operations: where one of them ends it, its end is the start of the change
abbrev pub ended : ℕ → List Op → Placed → Placed
ended start ops p = if is_none p.end && list_any (ends p.entry.slot) ops then record p { end = Some start } else p

-- the origin of the entry that follows the slot's live entry, which ends at `start`: start + deadline of the live entry
-- - 1
abbrev pub origin_behind : List Placed → ℕ → ℕ → ℕ
origin_behind placed start slot = option_map_or (λ live. start + live.entry.deadline - 1) (live_in placed slot) start

-- the entry that an operation places
abbrev pub placed_by : List Placed → ℕ → Op → Option Placed
placed_by placed start (Add entry) = Some (record { entry = entry; origin = start; end = None })
placed_by placed start (Remove slot) = None
placed_by placed start (Change entry) =
    Some (record { entry = entry; origin = origin_behind placed start entry.slot; end = None })

-- the placed entries after a change: the ends are set in place, and the new entries stand behind, in the order of the
-- operations
abbrev pub applied : List Placed → TableChange → List Placed
applied placed change =
    map (ended change.start change.ops) placed ++ filter_map (placed_by placed change.start) change.ops

-- the placed entry `p` stands as `q` after a change: unchanged, or it was live and ends at the start of the change
abbrev pub IsKept : ℕ → Placed → Placed → Type 0
IsKept start p q = (q ≡ p) ⊎ ((p.end ≡ None) × (q ≡ record p { end = Some start }))

-- a placed entry that a change placed: it is live, and its origin is not before the start of the change
pub record IsNewFrom (start : ℕ) (q : Placed) : Type 0 where
  pub after : start ≤ q.origin
  pub live : q.end ≡ None

-- the list `new` came from `old` by a change with this start: each old entry stands in its place, and those behind are
-- new
abbrev pub IsChangedAt : ℕ → List Placed → List Placed → Type 0
IsChangedAt start [] new = All (IsNewFrom start) new
IsChangedAt start (p ∷ old) [] = ⊥
IsChangedAt start (p ∷ old) (q ∷ new) = IsKept start p q × IsChangedAt start old new

-- the instance, with its placed entry as if it had no end
abbrev pub without_end : Instance → Instance
without_end i = record { placed = record i.placed { end = None }; number = i.number }
