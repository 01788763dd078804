-- Words for the table of the pairs of decimal digits of the numbers below 100.
use Rattle.std.specs.Prelude.{ℕ, ◌+◌, ◌/◌, ◌%◌, ◌==◌, if◌then◌else◌}

-- the digit at a place: at an even one the tens of half the place, and behind it the ones
unfoldable pub decimal_digit_at : ℕ → ℕ
decimal_digit_at place = 48 + (if place % 2 == 0 then place / 2 / 10 else place / 2 % 10)
