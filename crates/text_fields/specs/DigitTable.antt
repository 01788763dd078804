-- What the table of hexadecimal digits says of a byte.
use Rattle.std.specs.Prelude.{ℕ, ◌+◌, Bool, true, false}
use Rattle.std.specs.Char.{digit_value, is_ascii_hexdigit}
use Rattle.text_fields.specs.Hexadecimal.{is_hex_digit}

-- of a byte that is a digit in lower case or not, and one of either case or not, with a value as a digit
abbrev pub entry : Bool → Bool → ℕ → ℕ
entry true either value = value
entry false true value = 16 + value
entry false false value = 64

abbrev pub entry_of : ℕ → ℕ
entry_of byte = entry (is_hex_digit byte) (is_ascii_hexdigit byte) (digit_value byte)
