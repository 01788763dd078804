-- Hexadecimal numbers as text.
use Rattle.std.specs.Prelude.{ℕ, zero, suc, ◌/◌, ◌%◌, ◌==◌, ◌&&◌, ◌||◌, Bool, false, if◌then◌else◌, nat_le}
use Rattle.std.specs.Prelude.{List, [], ◌∷◌, ◌++◌, length, Option, Some, None}
use Rattle.std.specs.Fmt.{digit_glyph}
use Rattle.std.specs.List.{list_all}
use Rattle.std.specs.Str.Parse.{digits_value}

-- the last `count` hexadecimal digits of a number, lower case, the most significant one first
unfoldable pub hex_digits : ℕ → ℕ → List ℕ
hex_digits zero number = []
hex_digits (suc count) number = hex_digits count (number / 16) ++ digit_glyph false (number % 16) ∷ []

-- whether a byte is a hexadecimal digit in lower case
abbrev pub is_hex_digit : ℕ → Bool
is_hex_digit byte = (nat_le 48 byte && nat_le byte 57) || (nat_le 97 byte && nat_le byte 102)

-- the number that so many hexadecimal digits in lower case write
abbrev pub hex_of : ℕ → List ℕ → Option ℕ
hex_of count field =
    if (length field == count) && list_all is_hex_digit field then Some (digits_value 16 field) else None
