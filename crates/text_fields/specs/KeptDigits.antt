-- The digits above the last four of a number, which are kept for the next number.
use Rattle.std.specs.Prelude.{◌≡◌, ℕ, ◌/◌, ◌*◌, ◌<◌, ◌≤◌, ◌^◌, List, drop, length}
use Rattle.std.specs.Fmt.{decimal}

-- The digits from a place on write a number of up to eight digits that is not 0; with four zeros behind them they write
-- the base.
pub record AreHigh (digits : List ℕ) (first base : ℕ) : Type 0 where
  pub room : length digits ≡ 8
  pub within : first ≤ 8
  pub fours : base / 10000 * 10000 ≡ base
  pub some : 10000 ≤ base
  pub small : base < 10 ^ 12
  pub written : drop first digits ≡ decimal (base / 10000)
