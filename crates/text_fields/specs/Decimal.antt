-- Decimal numbers as text: what digits write, with leading zeros or in the one form that a writer gives.
use Rattle.std.specs.Prelude.{ℕ, ◌==◌, ◌&&◌, Bool, not, if◌then◌else◌, nat_le, nat_lt}
use Rattle.std.specs.Prelude.{List, length, slice_index, Option, Some, None}
use Rattle.std.specs.Char.{is_ascii_digit}
use Rattle.std.specs.List.{list_all}
use Rattle.std.specs.Str.Parse.{digits_value}

-- the number that a field writes: one ASCII digit or more, and nothing else
abbrev pub number_of : List ℕ → Option ℕ
number_of field =
    if not (length field == 0) && list_all is_ascii_digit field then Some (digits_value 10 field) else None

-- whether the first of several digits is a zero
abbrev pub has_leading_zero : List ℕ → Bool
has_leading_zero digits = nat_lt 1 (length digits) && (slice_index digits 0 == 48)

-- the number that a field writes in the one form that a writer gives: digits without leading zeros, and nothing else
abbrev pub decimal_of : List ℕ → Option ℕ
decimal_of field =
    if not (length field == 0) && list_all is_ascii_digit field && not (has_leading_zero field)
    then Some (digits_value 10 field) else None

-- a number, where it is from low to high
abbrev pub within : ℕ → ℕ → ℕ → Option ℕ
within low high number = if nat_le low number && nat_le number high then Some number else None
