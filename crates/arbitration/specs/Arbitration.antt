-- What arbitration decides (CAN 2.0 Part A, arbitration): of the senders that begin together, the one with the
-- least identifier goes on.
use Rattle.std.specs.Prelude.{◌≢◌, ℕ, ◌≤◌, List, All, AllPairs, Contains}

-- no two of the identifiers are equal
abbrev pub AreDistinct : List ℕ → Type 0
AreDistinct ids = AllPairs (λ one other. one ≢ other) ids

-- the identifier is one of these, and none of them is less
pub record IsLeast (ids : List ℕ) (id : ℕ) : Type 0 where
  pub contained : Contains ids id
  pub least : All (λ other. id ≤ other) ids
