-- The text of a set of slots, as the number whose bit s is slot s.
use Rattle.std.specs.Prelude.{ℕ, ◌^◌, ◌-◌, ◌==◌, if◌then◌else◌, nat_lt}
use Rattle.std.specs.Prelude.{List, length, Option, option_and_then}
use Rattle.text_fields.specs.Decimal.{within}
use Rattle.text_fields.specs.Hexadecimal.{hex_digits, hex_of}

-- how many digits a set has: ten where all its slots are below 40, and 24 otherwise
abbrev pub mask_width : ℕ → ℕ
mask_width mask = if nat_lt mask (2 ^ 40) then 10 else 24

-- the text of a set: the hexadecimal digits of its number, in lower case
unfoldable pub mask_digits : ℕ → List ℕ
mask_digits mask = hex_digits (mask_width mask) mask

-- the set that a field writes in this one form
unfoldable pub mask_of : List ℕ → Option ℕ
mask_of field =
    if length field == 10 then hex_of 10 field
    else option_and_then (within (2 ^ 40) (2 ^ 96 - 1)) (hex_of 24 field)
