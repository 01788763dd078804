-- What contracts see of the sink over a writer of std.
use Rattle.std.specs.Prelude.{ℕ}

-- the writer, and the count of faults
pub record StdSinkState (W : Type 0) : Type 0 where
  pub writer : W
  pub faults : ℕ
