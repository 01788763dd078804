-- A history is a list of entries. Each entry has the number of the one pass that may make it.
use Rattle.std.specs.Prelude.{ℕ, ◌==◌, List, [], length, drop, filter, Option, Some, None, Contains}

-- the entries with this number, in their order
abbrev pub own : {E : Type 0} → (E → ℕ) → ℕ → List E → List E
own number n entries = filter (λ e. number e == n) entries

-- what stands in a list behind the list that was found
abbrev pub added : {E : Type 0} → Option (List E) → List E → List E
added None entries = []
added (Some found) entries = drop (length found) entries

-- a pass of this number was joined
abbrev pub HasEnded : {E : Type 0} → List (ℕ × List E) → ℕ → Type 0
HasEnded {E} ended n = (entries : List E) × Contains ended (n, entries)
