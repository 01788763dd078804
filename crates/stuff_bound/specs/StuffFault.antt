-- When bits are not what stuffing gives: each refusal of `unstuff`.
use Rattle.std.specs.Prelude.{◌≡◌, ℕ, ◌+◌, ◌<◌, ◌≤◌, Bool, List, length, take, reverse}
use Rattle.stuff_bound.specs.Stuffing.{run, HasNoSix}

-- six equal neighbours stand in `wire`, and `place` is the index of the first sixth
pub record HasFirstSixth (wire : List Bool) (place : ℕ) : Type 0 where
  pub inside : place < length wire
  pub none_before : HasNoSix (reverse (take place wire))
  pub sixth : 6 ≤ run (reverse (take (place + 1) wire))

-- no six neighbours of `wire` are equal, and it ends with five equal bits that have no opposite behind them
pub record EndsInFive (wire : List Bool) : Type 0 where
  pub no_six : HasNoSix (reverse wire)
  pub five : run (reverse wire) ≡ 5
