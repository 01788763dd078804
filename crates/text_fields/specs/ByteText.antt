-- The bytes that pairs of hexadecimal digits write.
use Rattle.std.specs.Prelude.{ℕ, ◌+◌, ◌*◌, ◌%◌, ◌==◌, ◌&&◌, if◌then◌else◌, nat_le}
use Rattle.std.specs.Prelude.{List, [], ◌∷◌, length, Option, Some, None}
use Rattle.std.specs.Char.{digit_value, is_ascii_hexdigit}
use Rattle.std.specs.List.{list_all}
use Rattle.text_fields.specs.Hexadecimal.{is_hex_digit}

-- the bytes that two hexadecimal digits each write
abbrev pub bytes_written : List ℕ → List ℕ
bytes_written [] = []
bytes_written (high ∷ []) = []
bytes_written (high ∷ low ∷ rest) = (16 * digit_value high + digit_value low) ∷ bytes_written rest

-- the bytes that a field writes: an even number of 0 to 16 hexadecimal digits of either case, and nothing else
abbrev pub bytes_of : List ℕ → Option (List ℕ)
bytes_of field =
    if nat_le (length field) 16 && (length field % 2 == 0) && list_all is_ascii_hexdigit field
    then Some (bytes_written field) else None

-- the bytes that a field writes in the one form that a writer gives: the same with digits in lower case
abbrev pub data_of : List ℕ → Option (List ℕ)
data_of field =
    if nat_le (length field) 16 && (length field % 2 == 0) && list_all is_hex_digit field
    then Some (bytes_written field) else None
