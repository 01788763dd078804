-- The lines of a text, each of which ends with one line feed.
use Rattle.std.specs.Prelude.{◌≢◌, ℕ, ◌<◌, List, length, get_or}

-- no byte is a line feed
abbrev pub HasNoFeed : List ℕ → Type 0
HasNoFeed bytes = (i : ℕ) → i < length bytes → get_or bytes i 0 ≢ 10
