-- What was put to a sink, where the sink tells the bytes that it took. These are the words of std for a writer and what
-- it holds.
use Rattle.std.specs.Prelude.{◌≡◌, ℕ, List, ◌++◌, Option}
use Rattle.std.specs.Io.KnownBytes.{Keeps, Appends}

-- the sink took nothing: what it told it tells still
abbrev pub Stays : Option (List ℕ) → Option (List ℕ) → Type 0
Stays old new = Keeps old new

-- the sink took these bytes: where it told its bytes, it tells them with these behind
abbrev pub Puts : Option (List ℕ) → Option (List ℕ) → List ℕ → Type 0
Puts old new bytes = Appends old new bytes

-- the sink took the first of these bytes
pub record PutsPrefix (old new : Option (List ℕ)) (bytes : List ℕ) : Type 0 where
  pub front : List ℕ
  pub rest : List ℕ
  pub split : bytes ≡ front ++ rest
  pub puts : Puts old new front
