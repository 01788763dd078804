-- What the fields of a row say: words for contracts inside the crate.
use Rattle.std.specs.Prelude.{ℕ, ◌-◌, ◌^◌, ◌==◌, ◌&&◌, Bool, if◌then◌else◌, List, length, slice_get}
use Rattle.std.specs.Prelude.{codes, Option, Some, None, option_map}
use Rattle.std.specs.Str.{bytes_eq}
use Rattle.profile.specs.Limits.{greatest_identifier}
use Rattle.can_frame.specs.DataFrame.{DataFrame, frame_with}
use Rattle.text_fields.specs.ByteText.{data_of}
use Rattle.text_fields.specs.Decimal.{decimal_of, within}
use Rattle.text_fields.specs.Hexadecimal.{hex_of}
unfoldable use Rattle.text_fields.specs.MaskText.{mask_of}
use Rattle.text_fields.specs.Optional.{◌>>=◌}
use Rattle.log_reader.specs.declared.row.LogRow.{LogRow}
use Rattle.log_reader.specs.declared.row.LogRow.TheVariants as row
use Rattle.log_reader.specs.declared.row.LogVerdict.{LogVerdict}
use Rattle.log_reader.specs.declared.row.LogVerdict.TheVariants as verdict

-- Fields

-- the number in the field at a place, where it is not above the greatest one
abbrev pub decimal_at : List (List ℕ) → ℕ → ℕ → Option ℕ
decimal_at fields place most = slice_get fields place >>= decimal_of >>= within 0 most

-- the number that so many hexadecimal digits in lower case write in the field at a place
abbrev pub hex_at : List (List ℕ) → ℕ → ℕ → Option ℕ
hex_at fields place count = slice_get fields place >>= hex_of count

-- the set of slots that the field at a place writes
abbrev pub slots_at : List (List ℕ) → ℕ → Option ℕ
slots_at fields place = slice_get fields place >>= mask_of

-- the frame of the identifier and the bytes in the fields at two places
abbrev pub frame_at : List (List ℕ) → Option DataFrame
frame_at fields = do
  identifier ← hex_at fields 3 3 >>= within 0 greatest_identifier
  bytes ← slice_get fields 4 >>= data_of
  Some (frame_with identifier bytes)

-- Verdicts

-- whether there are so many fields
abbrev pub are_fields : List (List ℕ) → ℕ → Bool
are_fields fields count = length fields == count

-- two numbers in the fields from place 4 on, where there are no others
abbrev pub two_numbers : List (List ℕ) → Option (ℕ × ℕ)
two_numbers fields = if are_fields fields 6 then (do
  first ← decimal_at fields 4 (2 ^ 64 - 1)
  second ← decimal_at fields 5 (2 ^ 64 - 1)
  Some (first, second)) else None

abbrev pub accepted_of : List (List ℕ) → Option LogVerdict
accepted_of fields = do
  both ← two_numbers fields
  Some (verdict.Accepted both.0 both.1)

abbrev pub passed_of : List (List ℕ) → Option LogVerdict
passed_of fields = do
  both ← two_numbers fields
  Some (verdict.Passed both.0 both.1)

abbrev pub horizon_of : List (List ℕ) → Option LogVerdict
horizon_of fields = do
  both ← two_numbers fields
  Some (verdict.Horizon both.0 both.1)

abbrev pub miss_of : List (List ℕ) → Option LogVerdict
miss_of fields = if are_fields fields 7 then (do
  slot ← decimal_at fields 4 255
  release ← decimal_at fields 5 (2 ^ 64 - 1)
  cycle ← decimal_at fields 6 (2 ^ 64 - 1)
  Some (verdict.Miss slot release cycle)) else None

-- the cycle behind the number of a rule, where there is one
abbrev pub until_of : List (List ℕ) → ℕ → Option (Option ℕ)
until_of fields why =
    if are_fields fields 6 then Some None
    else if are_fields fields 7 && (why == 10) then option_map Some (decimal_at fields 6 (2 ^ 64 - 1))
    else None

abbrev pub malformed_of : List (List ℕ) → Option LogVerdict
malformed_of fields = do
  op ← decimal_at fields 4 255
  why ← decimal_at fields 5 255
  until ← until_of fields why
  Some (verdict.Malformed op why until)

-- the verdict that this word begins
abbrev pub verdict_by : List (List ℕ) → List ℕ → Option LogVerdict
verdict_by fields word =
    if bytes_eq word (codes "accepted") then accepted_of fields
    else if bytes_eq word (codes "malformed") then malformed_of fields
    else if bytes_eq word (codes "passed") then passed_of fields
    else if bytes_eq word (codes "miss") then miss_of fields
    else if bytes_eq word (codes "horizon") then horizon_of fields
    else None

unfoldable pub verdict_of : List (List ℕ) → Option LogVerdict
verdict_of fields = slice_get fields 3 >>= verdict_by fields

-- Rows

abbrev pub submit_of : List (List ℕ) → Option LogRow
submit_of fields = do
  caller ← decimal_at fields 1 255
  from ← decimal_at fields 2 (2 ^ 64 - 1)
  said ← verdict_of fields
  Some (row.Submit caller from said)

abbrev pub plan_of : List (List ℕ) → Option LogRow
plan_of fields = if are_fields fields 3 then (do
  cycle ← decimal_at fields 1 (2 ^ 64 - 1)
  mask ← slots_at fields 2
  Some (row.Plan cycle mask)) else None

abbrev pub look_of : List (List ℕ) → Option LogRow
look_of fields = if are_fields fields 3 then (do
  caller ← decimal_at fields 1 255
  next ← decimal_at fields 2 (2 ^ 64 - 1)
  Some (row.Look caller next)) else None

abbrev pub open_of : List (List ℕ) → Option LogRow
open_of fields = if are_fields fields 4 then (do
  cycle ← decimal_at fields 1 (2 ^ 64 - 1)
  mask ← slots_at fields 2
  width ← decimal_at fields 3 (2 ^ 32 - 1)
  Some (row.Open cycle mask width)) else None

abbrev pub frame_of : List (List ℕ) → Option LogRow
frame_of fields = if are_fields fields 5 then (do
  start ← decimal_at fields 1 (2 ^ 64 - 1)
  len ← decimal_at fields 2 (2 ^ 32 - 1)
  frame ← frame_at fields
  Some (row.Frame (record { start = start; len = len; frame = frame }))) else None

abbrev pub end_of : List (List ℕ) → Option LogRow
end_of fields = if are_fields fields 2 then (do
  next ← decimal_at fields 1 (2 ^ 64 - 1)
  Some (row.End next)) else None

-- the row that this word begins
abbrev pub row_by : List (List ℕ) → List ℕ → Option LogRow
row_by fields word =
    if bytes_eq word (codes "submit") then submit_of fields
    else if bytes_eq word (codes "plan") then plan_of fields
    else if bytes_eq word (codes "look") then look_of fields
    else if bytes_eq word (codes "open") then open_of fields
    else if bytes_eq word (codes "frame") then frame_of fields
    else if bytes_eq word (codes "end") then end_of fields
    else None

-- the row that these fields have the form of
unfoldable pub row_of : List (List ℕ) → Option LogRow
row_of fields = slice_get fields 0 >>= row_by fields
