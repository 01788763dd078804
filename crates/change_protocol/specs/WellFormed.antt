-- A change that breaks no rule, in the words of its operations and of the placed entries. A law says that this is a
-- well formed change.
use Rattle.std.specs.Prelude.{◌≡◌, ◌≢◌, ℕ, ◌<◌, ◌≤◌, None, IfSome, List, All, AllPairs, Any, length}
use Rattle.profile.specs.Limits.{starts_end}
use Rattle.requirement_table.specs.declared.entries.Entry.{Entry}
use Rattle.requirement_table.specs.declared.entries.Placed.{Placed}
use Rattle.requirement_table.specs.Table.{IsFreeAt}
use Rattle.change_protocol.specs.declared.operations.Op.{Op}
use Rattle.change_protocol.specs.declared.operations.Op.TheVariants.{Add, Remove, Change}
use Rattle.change_protocol.specs.declared.operations.Change.{Change as TableChange}
use Rattle.change_protocol.specs.Malformed.{Bounds}
use Rattle.change_protocol.specs.Operations.{entry_of, slot_of}

-- an entry can be placed on a bus of this size
pub record CanBePlaced (bounds : Bounds) (entry : Entry) : Type 0 where
  pub node : entry.node < bounds.nodes
  pub length : entry.length ≤ 8
  pub some_time : 1 ≤ entry.deadline
  pub deadline : entry.deadline ≤ entry.period

-- all entries of the slot have an end and are free at `c`
abbrev pub IsFreeSlot : List Placed → ℕ → ℕ → Type 0
IsFreeSlot placed slot c = All (λ p. p.entry.slot ≡ slot → IsFreeAt p c) placed

-- the slot has a live entry, whose origin is not above `c`
abbrev pub HasLive : List Placed → ℕ → ℕ → Type 0
HasLive placed slot c = Any (λ p. (p.entry.slot ≡ slot) × (p.end ≡ None) × (p.origin ≤ c)) placed

-- the operation finds its slot as it needs it at the start of the change
abbrev pub FindsSlot : List Placed → ℕ → Op → Type 0
FindsSlot placed start (Add entry) = IsFreeSlot placed entry.slot start
FindsSlot placed start (Remove slot) = HasLive placed slot start
FindsSlot placed start (Change entry) = HasLive placed entry.slot start

-- the operation breaks no rule by itself
pub record KeepsRules (placed : List Placed) (bounds : Bounds) (start : ℕ) (op : Op) : Type 0 where
  pub slot : slot_of op < bounds.slots
  pub entry : IfSome (entry_of op) (CanBePlaced bounds)
  pub finds : FindsSlot placed start op

-- the change breaks no rule
pub record BreaksNoRule (placed : List Placed) (bounds : Bounds) (change : TableChange) : Type 0 where
  pub some : 1 ≤ length change.ops
  pub few : length change.ops ≤ 16
  pub start : change.start < starts_end
  pub each : All (KeepsRules placed bounds change.start) change.ops
  pub distinct : AllPairs (λ one other. slot_of one ≢ slot_of other) change.ops
