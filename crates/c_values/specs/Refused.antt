-- The statuses that C is told where it is refused what it asks for.
use Rattle.std.specs.Prelude.{◌≡◌, ℕ, List, All}
use Rattle.requirement_table.specs.Table.{IsWellPlaced}
use Rattle.c_values.specs.declared.plain.FttFrame.{FttFrame}
use Rattle.c_values.specs.declared.plain.FttOp.{FttOp}
use Rattle.c_values.specs.declared.plain.FttPlaced.{FttPlaced}
use Rattle.c_values.specs.declared.plain.FttRules.{FttRules}
use Rattle.c_values.specs.declared.refusal.ExportRefusal.{ExportRefusal}
use Rattle.c_values.specs.declared.refusal.ExportRefusal.TheVariants.{Memory, Argument, Table, State, Room, Miss, Closed, Open, Text, No}
use Rattle.c_values.specs.Plain.{AreRules, IsFrameIn, IsOp, table_of}

-- the status of a refusal; 0 is that of a call that did what was asked for
abbrev pub status_of : ExportRefusal → ℕ
status_of Memory = 1
status_of Argument = 2
status_of Table = 3
status_of State = 4
status_of Room = 5
status_of Miss = 6
status_of Closed = 7
status_of Open = 8
status_of Text = 9
status_of No = 10

-- When a part of what C hands in is refused, and with which of the refusals

abbrev pub RefusesFrame : FttFrame → ExportRefusal → Type 0
RefusesFrame frame refusal = (refusal ≡ Argument) × (IsFrameIn frame → ⊥)

abbrev pub RefusesRules : FttRules → ExportRefusal → Type 0
RefusesRules rules refusal = (refusal ≡ Argument) × (AreRules rules → ⊥)

-- want of memory says nothing of a table, and it comes only where the operations are in range

abbrev pub RefusesTable : List FttPlaced → ExportRefusal → Type 0
RefusesTable placed Memory = Unit {0}
RefusesTable placed Argument = ⊥
RefusesTable placed Table = IsWellPlaced (table_of placed) → ⊥
RefusesTable placed State = ⊥
RefusesTable placed Room = ⊥
RefusesTable placed Miss = ⊥
RefusesTable placed Closed = ⊥
RefusesTable placed Open = ⊥
RefusesTable placed Text = ⊥
RefusesTable placed No = ⊥

abbrev pub RefusesOps : List FttOp → ExportRefusal → Type 0
RefusesOps ops Memory = All IsOp ops
RefusesOps ops Argument = All IsOp ops → ⊥
RefusesOps ops Table = ⊥
RefusesOps ops State = ⊥
RefusesOps ops Room = ⊥
RefusesOps ops Miss = ⊥
RefusesOps ops Closed = ⊥
RefusesOps ops Open = ⊥
RefusesOps ops Text = ⊥
RefusesOps ops No = ⊥
