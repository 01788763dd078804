-- The counts that a shelf and a sink keep. Each is a number of 64 bits that stands still at its greatest value.
use Rattle.std.specs.Prelude.{ℕ, ◌+◌, ◌-◌, ◌^◌, ◌≤◌, min}

-- a count after so many more events
abbrev pub count_after : ℕ → ℕ → ℕ
count_after count events = min (count + events) (2 ^ 64 - 1)

-- a count after one more event
abbrev pub next_count : ℕ → ℕ
next_count count = count_after count 1

-- a count rose: it is higher than before, or it stands at its greatest value
abbrev pub Rose : ℕ → ℕ → Type 0
Rose before now = next_count before ≤ now
