-- What contracts see of the shelf of the system's files.
use Rattle.std.specs.Prelude.{ℕ}

-- the counts
pub record FileShelfState : Type 0 where
  pub fetches : ℕ
  pub faults : ℕ
  pub last_fetch_len : ℕ
