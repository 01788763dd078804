-- The table after a change that a master accepted, as C is told it.
use Rattle.std.specs.Prelude.{◌≡◌, ℕ, List, All, map}
use Rattle.profile.specs.Limits.{most_nodes}
use Rattle.bit_sets.specs.Sets.{most_slots}
use Rattle.requirement_table.specs.declared.entries.Placed.{Placed}
use Rattle.requirement_table.specs.Table.{IsWellPlaced}
use Rattle.change_protocol.specs.Applied.{applied}
use Rattle.change_protocol.specs.Malformed.{IsWellFormed, bounds_of}
use Rattle.change_protocol.specs.declared.operations.Change.{Change}
use Rattle.c_values.specs.declared.plain.FttOp.{FttOp}
use Rattle.c_values.specs.declared.plain.FttPlaced.{FttPlaced}
use Rattle.c_values.specs.declared.refusal.ExportRefusal.{ExportRefusal}
use Rattle.c_values.specs.declared.refusal.ExportRefusal.TheVariants as refused
use Rattle.c_values.specs.Plain.{IsOp, change_of, table_of}
use Rattle.c_values.specs.Told.{put_of}

-- a change breaks no rule of a bus with as many nodes and slots as there can be
abbrev pub IsAccepted : List Placed → Change → Type 0
IsAccepted placed change = IsWellFormed placed (bounds_of most_nodes most_slots) change

-- the table after it
pub record IsApplied (placed : List FttPlaced) (start : ℕ) (ops : List FttOp) (made : List FttPlaced) : Type 0 where
  pub well_placed : IsWellPlaced (table_of placed)
  pub kinds : All IsOp ops
  pub well_formed : IsAccepted (table_of placed) (change_of start ops)
  pub made_is : made ≡ map put_of (applied (table_of placed) (change_of start ops))

-- why a change of a list is not made: it breaks a rule; or there is no memory
abbrev pub RefusesApplying : List Placed → Change → ExportRefusal → Type 0
RefusesApplying placed change refused.Memory = Unit {0}
RefusesApplying placed change refused.Argument = ⊥
RefusesApplying placed change refused.Table = ⊥
RefusesApplying placed change refused.State = ⊥
RefusesApplying placed change refused.Room = ⊥
RefusesApplying placed change refused.Miss = ⊥
RefusesApplying placed change refused.Closed = ⊥
RefusesApplying placed change refused.Open = ⊥
RefusesApplying placed change refused.Text = ⊥
RefusesApplying placed change refused.No = IsAccepted placed change → ⊥

-- why C is told no table: an operation is of no kind; all are of one, and the table is not well placed; or the change breaks
-- a rule; want of memory says nothing of table and change
abbrev pub RefusesApply : List FttPlaced → ℕ → List FttOp → ExportRefusal → Type 0
RefusesApply placed start ops refused.Memory = All IsOp ops
RefusesApply placed start ops refused.Argument = All IsOp ops → ⊥
RefusesApply placed start ops refused.Table = All IsOp ops × (IsWellPlaced (table_of placed) → ⊥)
RefusesApply placed start ops refused.State = ⊥
RefusesApply placed start ops refused.Room = ⊥
RefusesApply placed start ops refused.Miss = ⊥
RefusesApply placed start ops refused.Closed = ⊥
RefusesApply placed start ops refused.Open = ⊥
RefusesApply placed start ops refused.Text = ⊥
RefusesApply placed start ops refused.No = All IsOp ops × IsWellPlaced (table_of placed)
    × (IsAccepted (table_of placed) (change_of start ops) → ⊥)
