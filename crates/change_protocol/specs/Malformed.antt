-- When a change is malformed. `faults` lists every rule that it breaks, in the order in which they are tested: the
-- rules of the whole change, and then those of each operation in its order. The first of these is the answer.
use Rattle.std.specs.Prelude.{◌≡◌, ℕ, ◌||◌, Bool, false, nat_eq, nat_lt, nat_le, if◌then◌else◌}
use Rattle.std.specs.Prelude.{Option, Some, None, is_none, List, [], ◌∷◌, ◌++◌, length, map, slice_get}
use Rattle.std.specs.List.{list_any}
use Rattle.std.specs.Option.{option_map_or}
use Rattle.profile.specs.Limits.{starts_end}
use Rattle.requirement_table.specs.declared.entries.Entry.{Entry}
use Rattle.requirement_table.specs.declared.entries.Placed.{Placed}
use Rattle.change_protocol.specs.declared.operations.Op.{Op}
use Rattle.change_protocol.specs.declared.operations.Op.TheVariants.{Add, Remove, Change}
use Rattle.change_protocol.specs.declared.operations.Change.{Change as TableChange}
use Rattle.change_protocol.specs.declared.malformed.Why.{Why}
use Rattle.change_protocol.specs.declared.malformed.Why.TheVariants.{NoOps, TooManyOps, StartRange, SlotRange}
use Rattle.change_protocol.specs.declared.malformed.Why.TheVariants.{SlotTwice, NodeUnknown, LengthRange}
use Rattle.change_protocol.specs.declared.malformed.Why.TheVariants.{PeriodZero, DeadlineRange, SlotBusy, SlotEmpty}
use Rattle.change_protocol.specs.declared.malformed.ApplyFault.{ApplyFault}
use Rattle.change_protocol.specs.declared.malformed.ApplyFault.TheVariants.{Malformed, Memory}
use Rattle.change_protocol.specs.Operations.{entry_of, slot_of}
use Rattle.change_protocol.specs.Applied.{free_in, live_in}

-- the number of nodes and of slots of a bus; both are numbered from 0
pub record Bounds : Type 0 where
  pub nodes : ℕ
  pub slots : ℕ

abbrev pub bounds_of : ℕ → ℕ → Bounds
bounds_of nodes slots = record { nodes = nodes; slots = slots }

-- the operation places an entry that passes the test
abbrev pub places : (Entry → Bool) → Op → Bool
places test op = option_map_or test (entry_of op) false

-- the rule is broken where the test holds
abbrev pub where_holds : Bool → Why → List Why
where_holds test why = if test then why ∷ [] else []

-- the rules of a whole change

abbrev pub no_ops : List Op → List Why
no_ops ops = where_holds (nat_eq (length ops) 0) NoOps

abbrev pub too_many_ops : List Op → List Why
too_many_ops ops = where_holds (nat_lt 16 (length ops)) TooManyOps

abbrev pub start_range : ℕ → List Why
start_range start = where_holds (nat_le starts_end start) StartRange

-- the rules of an operation; `earlier` are the operations of the change before it

abbrev pub slot_range : ℕ → Op → List Why
slot_range slots op = where_holds (nat_le slots (slot_of op)) SlotRange

abbrev pub slot_twice : List Op → Op → List Why
slot_twice earlier op = where_holds (list_any (λ other. nat_eq (slot_of other) (slot_of op)) earlier) SlotTwice

abbrev pub node_unknown : ℕ → Op → List Why
node_unknown nodes op = where_holds (places (λ entry. nat_le nodes entry.node) op) NodeUnknown

abbrev pub length_range : Op → List Why
length_range op = where_holds (places (λ entry. nat_lt 8 entry.length) op) LengthRange

abbrev pub period_zero : Op → List Why
period_zero op = where_holds (places (λ entry. nat_eq entry.period 0) op) PeriodZero

abbrev pub deadline_range : Op → List Why
deadline_range op =
    where_holds (places (λ entry. nat_eq entry.deadline 0 || nat_lt entry.period entry.deadline) op) DeadlineRange

-- an entry is added: the slot's live entry is in the way, with no known end, or else its last entry, to the greatest
-- end + deadline - 1
abbrev pub add_busy_by : Option Placed → ℕ → ℕ → List Why
add_busy_by (Some live) free start = SlotBusy None ∷ []
add_busy_by None free start = where_holds (nat_lt start free) (SlotBusy (Some free))

abbrev pub add_busy : List Placed → ℕ → ℕ → List Why
add_busy placed start slot = add_busy_by (live_in placed slot) (free_in placed slot) start

-- the slot's live entry is to end at `start`: it can not where its origin is above that
abbrev pub end_busy_by : Option Placed → ℕ → List Why
end_busy_by (Some live) start = where_holds (nat_lt start live.origin) (SlotBusy (Some live.origin))
end_busy_by None start = []

abbrev pub end_busy : List Placed → ℕ → ℕ → List Why
end_busy placed start slot = end_busy_by (live_in placed slot) start

abbrev pub slot_busy : List Placed → ℕ → Op → List Why
slot_busy placed start (Add entry) = add_busy placed start entry.slot
slot_busy placed start (Remove slot) = end_busy placed start slot
slot_busy placed start (Change entry) = end_busy placed start entry.slot

abbrev pub slot_empty : List Placed → Op → List Why
slot_empty placed (Add entry) = []
slot_empty placed (Remove slot) = where_holds (is_none (live_in placed slot)) SlotEmpty
slot_empty placed (Change entry) = where_holds (is_none (live_in placed entry.slot)) SlotEmpty

-- the rules that an operation breaks, in their order
abbrev pub whys : List Placed → Bounds → ℕ → List Op → Op → List Why
whys placed bounds start earlier op =
    slot_range bounds.slots op
    ++ slot_twice earlier op
    ++ node_unknown bounds.nodes op
    ++ length_range op
    ++ period_zero op
    ++ deadline_range op
    ++ slot_busy placed start op
    ++ slot_empty placed op

-- a rule that a change breaks, and the operation that breaks it, from 0
pub record Broken : Type 0 where
  pub op : ℕ
  pub why : Why

abbrev pub broken : ℕ → Why → Broken
broken op why = record { op = op; why = why }

-- the rules that a whole change breaks
abbrev pub change_faults : ℕ → List Op → List Broken
change_faults start ops =
    map (broken 0) (no_ops ops)
    ++ map (broken 16) (too_many_ops ops)
    ++ map (broken 0) (start_range start)

-- the rules that operations break which stand behind these earlier ones
abbrev pub op_faults : List Placed → Bounds → ℕ → List Op → List Op → List Broken
op_faults placed bounds start earlier [] = []
op_faults placed bounds start earlier (op ∷ ops) =
    map (broken (length earlier)) (whys placed bounds start earlier op)
    ++ op_faults placed bounds start (earlier ++ op ∷ []) ops

-- all rules that a change breaks, for a table of these placed entries and for these numbers of nodes and slots
abbrev pub faults : List Placed → Bounds → TableChange → List Broken
faults placed bounds change = change_faults change.start change.ops ++ op_faults placed bounds change.start [] change.ops

-- the first rule that a change breaks
abbrev pub first_fault : List Placed → Bounds → TableChange → Option Broken
first_fault placed bounds change = slice_get (faults placed bounds change) 0

-- the change breaks no rule
abbrev pub IsWellFormed : List Placed → Bounds → TableChange → Type 0
IsWellFormed placed bounds change = faults placed bounds change ≡ []

-- the fault of a change: the first rule that it breaks, or want of memory, where it breaks none
abbrev pub IsFaultOf : List Placed → Bounds → TableChange → ApplyFault → Type 0
IsFaultOf placed bounds change (Malformed op why) = first_fault placed bounds change ≡ Some (broken op why)
IsFaultOf placed bounds change Memory = IsWellFormed placed bounds change
