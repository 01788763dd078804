-- The last rows of a log.
use Rattle.std.specs.Prelude.{ℕ, List, Vec}

-- the bytes of a row
abbrev pub bytes_of : {A : Type 0} → Vec ℕ A → List ℕ
bytes_of row = row.items

-- the rows that are kept, the oldest one first, and how many there may be at most
pub record LastRows : Type 0 where
  pub rows : List (List ℕ)
  pub most : ℕ
