-- The operations of a change.
use Rattle.std.specs.Prelude.{ℕ, ◌^◌, ◌<◌, Bool, false, nat_eq, Option, Some, None, IfSome}
use Rattle.requirement_table.specs.declared.entries.Entry.{Entry}
use Rattle.change_protocol.specs.declared.operations.Op.{Op}
use Rattle.change_protocol.specs.declared.operations.Op.TheVariants.{Add, Remove, Change}

-- the slot of an operation
abbrev pub slot_of : Op → ℕ
slot_of (Add entry) = entry.slot
slot_of (Remove slot) = slot
slot_of (Change entry) = entry.slot

-- the entry that an operation places
abbrev pub entry_of : Op → Option Entry
entry_of (Add entry) = Some entry
entry_of (Remove slot) = None
entry_of (Change entry) = Some entry

-- the operation ends the slot's live entry
abbrev pub ends : ℕ → Op → Bool
ends slot (Add entry) = false
ends slot (Remove other) = nat_eq other slot
ends slot (Change entry) = nat_eq entry.slot slot

-- the numbers of an entry that no rule bounds are in the ranges of their types
pub record IsTyped (entry : Entry) : Type 0 where
  pub phase : entry.phase < 2 ^ 16
  pub period : entry.period < 2 ^ 16
  pub priority : entry.priority < 2 ^ 8

-- so are those of the entry that an operation places
abbrev pub HasTypes : Op → Type 0
HasTypes op = IfSome (entry_of op) IsTyped
