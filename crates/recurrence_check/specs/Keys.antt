-- A table of the steps to states, by their keys.
use Rattle.std.specs.Prelude.{◌≡◌, ◌≢◌, ℕ, zero, suc, ◌+◌, ◌<◌, ◌≤◌, length, nat_eq, if◌then◌else◌, List, Option, Some, None, slice_index_or}
use Rattle.recurrence_check.specs.Stretch.{further}
use Rattle.recurrence_check.specs.declared.by_keys.Met.{Met}

-- the key was looked up in the table, which had `before` under it, and where that was nothing the key now stands there
-- with these steps; no key stands nowhere
abbrev pub Meets : (ℕ × ℕ → Option ℕ) → (ℕ × ℕ → Option ℕ) → Option (ℕ × ℕ) → ℕ → Option ℕ → Type 0
Meets old new None steps before = (before ≡ None) × ((key : ℕ × ℕ) → new key ≡ old key)
Meets old new (Some key) steps before =
    (before ≡ old key)
    × (before ≡ None → (new key ≡ Some steps) × ((other : ℕ × ℕ) → key ≢ other → new other ≡ old other))

-- the keys of so many states were put down one after the other, from these steps on. None of them stood there before
abbrev pub MeetsRun : (ℕ × ℕ → Option ℕ) → (ℕ × ℕ → Option ℕ) → Option (ℕ × ℕ) → ℕ → ℕ → Type 0
MeetsRun old new key steps zero = (q : ℕ × ℕ) → new q ≡ old q
MeetsRun old new key steps (suc n) =
    (mid : ℕ × ℕ → Option ℕ) × MeetsRun old mid key steps n × Meets mid new (further key n) (steps + n) None

-- this is the first of so many states whose key stood in the table; where there is none, all their keys were put down
abbrev pub MeetsAll : (ℕ × ℕ → Option ℕ) → (ℕ × ℕ → Option ℕ) → Option (ℕ × ℕ) → ℕ → ℕ → Option Met → Type 0
MeetsAll old new key steps count None = MeetsRun old new key steps count
MeetsAll old new key steps count (Some met) =
    (met.behind < count)
    × (mid : ℕ × ℕ → Option ℕ)
    × MeetsRun old mid key steps met.behind
    × Meets mid new (further key met.behind) (steps + met.behind) (Some met.first)

-- what stands under a mark at a place whose first mark, and its steps, are these: other marks stand elsewhere
abbrev pub at_place : Option (ℕ × ℕ) → ℕ → Option ℕ → Option ℕ
at_place None mark elsewhere = elsewhere
at_place (Some first) mark elsewhere = if nat_eq first.0 mark then Some first.1 else elsewhere

-- the table whose first marks stand in a row by their places, and whose other keys stand in another table
abbrev pub table : List (Option (ℕ × ℕ)) → (ℕ × ℕ → Option ℕ) → ℕ × ℕ → Option ℕ
table row others key = at_place (slice_index_or row key.1 None) key.0 (others key)

-- how many places the row has room for
abbrev pub row_places : ℕ
row_places = 100000

-- no key stands in the other table before the row has a first mark at its place; the row has no more than its places
pub record IsSparse (row : List (Option (ℕ × ℕ))) (others : ℕ × ℕ → Option ℕ) : Type 0 where
  pub short : length row ≤ row_places
  pub first : (key : ℕ × ℕ) → key.1 < row_places → slice_index_or row key.1 None ≡ None → others key ≡ None
