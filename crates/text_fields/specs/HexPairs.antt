-- Words for the table of the pairs of hexadecimal digits of bytes.
use Rattle.std.specs.Prelude.{ℕ, ◌/◌, ◌%◌, ◌==◌, if◌then◌else◌, false}
use Rattle.std.specs.Fmt.{digit_glyph}

-- the digit at a place: at an even one the first digit of half the place, and behind it the second one
unfoldable pub digit_at : ℕ → ℕ
digit_at place = digit_glyph false (if place % 2 == 0 then place / 2 / 16 else place / 2 % 16)
