-- *Rows of a log* as values, and the text of each: its fields with a comma between each two of them, and one line feed.
use Rattle.std.specs.Prelude.{◌≡◌, ℕ, ◌+◌, ◌^◌, ◌<◌, List, [], ◌∷◌, ◌++◌}
use Rattle.std.specs.Prelude.{All, length, map, Option, Some, None, IfSome, codes}
use Rattle.std.specs.List.{flat_map, join_with_byte}
use Rattle.std.specs.Fmt.{decimal}
use Rattle.can_frame.specs.DataFrame.{IsFrame}
use Rattle.can_frame.specs.declared.data_frame.TimedFrame.{TimedFrame}
use Rattle.bit_sets.specs.Sets.{most_slots}
use Rattle.text_fields.specs.CsvRows.{records_of}
use Rattle.text_fields.specs.Hexadecimal.{hex_digits}
use Rattle.text_fields.specs.MaskText.{mask_digits}
use Rattle.log_reader.specs.declared.log_fault.LogFault.{LogFault}
use Rattle.log_reader.specs.declared.log_fault.LogFault.TheVariants.{Row, Memory}
use Rattle.log_reader.specs.declared.row.LogRow.{LogRow}
use Rattle.log_reader.specs.declared.row.LogRow.TheVariants.{Submit, Plan, Look, Open, Frame, End}
use Rattle.log_reader.specs.declared.row.LogVerdict.{LogVerdict}
use Rattle.log_reader.specs.declared.row.OpenRow.{OpenRow}
use Rattle.log_reader.specs.declared.row.LogVerdict.TheVariants.{Accepted, Malformed, Passed, Miss, Horizon}

-- a last field, where there is one
abbrev pub field_of_until : Option ℕ → List (List ℕ)
field_of_until None = []
field_of_until (Some until) = decimal until ∷ []

-- the fields of a verdict
abbrev pub fields_of_verdict : LogVerdict → List (List ℕ)
fields_of_verdict (Accepted first length) = codes "accepted" ∷ decimal first ∷ decimal length ∷ []
fields_of_verdict (Malformed op why until) = codes "malformed" ∷ decimal op ∷ decimal why ∷ field_of_until until
fields_of_verdict (Passed start next) = codes "passed" ∷ decimal start ∷ decimal next ∷ []
fields_of_verdict (Miss slot release cycle) = codes "miss" ∷ decimal slot ∷ decimal release ∷ decimal cycle ∷ []
fields_of_verdict (Horizon from walked) = codes "horizon" ∷ decimal from ∷ decimal walked ∷ []

-- the row of an opened cycle
abbrev pub opened_row : OpenRow → LogRow
opened_row opened = Open opened.cycle opened.mask opened.width

-- the fields of a frame
abbrev pub fields_of_frame : TimedFrame → List (List ℕ)
fields_of_frame timed =
    codes "frame" ∷ decimal timed.start ∷ decimal timed.len ∷ hex_digits 3 timed.frame.identifier
    ∷ flat_map (hex_digits 2) timed.frame.bytes ∷ []

-- the fields of a row; those of an opened cycle are `open,CYCLE,MASK,WIDTH`, with the set of the flagged slots
abbrev pub fields_of_row : LogRow → List (List ℕ)
fields_of_row (Submit caller from verdict) = codes "submit" ∷ decimal caller ∷ decimal from ∷ fields_of_verdict verdict
fields_of_row (Plan cycle mask) = codes "plan" ∷ decimal cycle ∷ mask_digits mask ∷ []
fields_of_row (Look caller next) = codes "look" ∷ decimal caller ∷ decimal next ∷ []
fields_of_row (Open cycle mask l) = codes "open" ∷ decimal cycle ∷ mask_digits mask ∷ decimal l ∷ []
fields_of_row (Frame timed) = fields_of_frame timed
fields_of_row (End next) = codes "end" ∷ decimal next ∷ []

-- the text of a row, without and with its line feed
abbrev pub row_line : LogRow → List ℕ
row_line row = join_with_byte 44 (fields_of_row row)

abbrev pub row_text : LogRow → List ℕ
row_text row = row_line row ++ 10 ∷ []

-- the text of rows: that of each one after the other
abbrev pub text_of_rows : List LogRow → List ℕ
text_of_rows rows = flat_map row_text rows

-- the numbers of a verdict are in the ranges of their types, and a cycle up to which a slot is in use stands behind
-- rule 10 alone
abbrev pub IsLogVerdict : LogVerdict → Type 0
IsLogVerdict (Accepted first length) = (first < 2 ^ 64) × (length < 2 ^ 64)
IsLogVerdict (Malformed op why until) =
    (op < 2 ^ 8) × (why < 2 ^ 8) × IfSome until (λ cycle. (cycle < 2 ^ 64) × (why ≡ 10))
IsLogVerdict (Passed start next) = (start < 2 ^ 64) × (next < 2 ^ 64)
IsLogVerdict (Miss slot release cycle) = (slot < 2 ^ 8) × (release < 2 ^ 64) × (cycle < 2 ^ 64)
IsLogVerdict (Horizon from walked) = (from < 2 ^ 64) × (walked < 2 ^ 64)

-- so are those of a row, and what it says to be a set of slots or a frame is one
abbrev pub IsLogRow : LogRow → Type 0
IsLogRow (Submit caller from verdict) = (caller < 2 ^ 8) × (from < 2 ^ 64) × IsLogVerdict verdict
IsLogRow (Plan cycle mask) = (cycle < 2 ^ 64) × (mask < 2 ^ most_slots)
IsLogRow (Look caller next) = (caller < 2 ^ 8) × (next < 2 ^ 64)
IsLogRow (Open cycle mask l) = (cycle < 2 ^ 64) × (mask < 2 ^ most_slots) × (l < 2 ^ 32)
IsLogRow (Frame timed) = (timed.start < 2 ^ 64) × (timed.len < 2 ^ 32) × IsFrame timed.frame
IsLogRow (End next) = next < 2 ^ 64

-- the records of a text are those of these rows: one for each row, with its fields, in their order
abbrev pub AreRowsOf : List ℕ → List LogRow → Type 0
AreRowsOf bytes rows = All IsLogRow rows × (records_of bytes ≡ map fields_of_row rows)

-- the record of this number, counted from 1, is the first one whose fields are those of no row: before it stand the
-- fields of rows
pub record IsFirstFaultyRow (bytes : List ℕ) (number : ℕ) : Type 0 where
  pub before : List LogRow
  pub rows : All IsLogRow before
  pub fields : List (List ℕ)
  pub below : List (List (List ℕ))
  pub split : records_of bytes ≡ map fields_of_row before ++ fields ∷ below
  pub number_is : number ≡ length before + 1
  pub none : (row : LogRow) → IsLogRow row → fields ≡ fields_of_row row → ⊥

-- what a fault of the reader says
abbrev pub IsLogFault : List ℕ → LogFault → Type 0
IsLogFault bytes (Row number) = IsFirstFaultyRow bytes number
IsLogFault bytes Memory = Unit {0}
