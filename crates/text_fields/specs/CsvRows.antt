-- The records of a text of comma-separated fields, and its rows with trimmed fields and the numbers in them.
use Rattle.std.specs.Prelude.{ℕ, ◌-◌, ◌==◌, if◌then◌else◌, List, [], ◌∷◌}
use Rattle.std.specs.Prelude.{map, reverse, Option, option_and_then}
use Rattle.profile.specs.Limits.{arrivals_end}
use Rattle.csv.specs.Reading.{default_config, records, strip_bom}
use Rattle.csv.specs.Records.{field_at}
use Rattle.text_fields.specs.Decimal.{number_of, within}

-- the records of a text: its lines of comma-separated fields as `csv` reads them, without a byte order mark at the
-- start and without a header
abbrev pub records_of : List ℕ → List (List (List ℕ))
records_of bytes = records default_config (strip_bom bytes)

-- a field without the spaces at its start
abbrev pub without_leading_spaces : List ℕ → List ℕ
without_leading_spaces [] = []
without_leading_spaces (byte ∷ rest) = if byte == 32 then without_leading_spaces rest else byte ∷ rest

-- a field without the spaces at both ends
abbrev pub trimmed : List ℕ → List ℕ
trimmed field = reverse (without_leading_spaces (reverse (without_leading_spaces field)))

-- the rows of a text: its records, each field trimmed
abbrev pub rows_of : List ℕ → List (List (List ℕ))
rows_of bytes = map (map trimmed) (records_of bytes)

-- the number in the field at this place of a row, where it is from low to high
abbrev pub number_at : List (List ℕ) → ℕ → ℕ → ℕ → Option ℕ
number_at row place low high = option_and_then (within low high) (option_and_then number_of (field_at row place))

-- AT, the first field of a row of requests or of a streams file, in bit times: a number below 2 ^ 40
abbrev pub arrival_in : List (List ℕ) → Option ℕ
arrival_in row = number_at row 0 0 (arrivals_end - 1)
