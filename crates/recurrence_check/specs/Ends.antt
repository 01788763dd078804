-- What is to be answered about the first repeat of a walk.
use Rattle.std.specs.Prelude.{◌≡◌, ℕ, ◌+◌, ◌<◌, ◌≤◌, Result, Ok, Err}
use Rattle.recurrence_check.specs.Course.{Course, IsLeastRepeat, Breaks, StaysNew}
use Rattle.recurrence_check.specs.declared.walk_end.Repeat.{Repeat}
use Rattle.recurrence_check.specs.declared.walk_end.WalkEnd.{WalkEnd}
use Rattle.recurrence_check.specs.declared.walk_end.WalkEnd.TheVariants.{Broken, NoRepeat, Memory}

-- this is the walk's least repeat, and it ends at or below the horizon
abbrev pub IsFirstRepeat : {State : Type 0} → Course State → ℕ → Repeat → Type 0
IsFirstRepeat course horizon again =
    (again.first + again.length ≤ horizon) × IsLeastRepeat course again.first (again.first + again.length)

-- this is why the walk has no repeat at or below the horizon; want of memory is free
abbrev pub IsEnd : {State : Type 0} → Course State → ℕ → WalkEnd → Type 0
IsEnd course horizon (Broken at) = (at < horizon) × Breaks course at
IsEnd course horizon (NoRepeat walked) = (walked ≡ horizon) × StaysNew course walked
IsEnd course horizon Memory = Unit {0}

-- this is to be answered
abbrev pub IsWalkAnswer : {State : Type 0} → Course State → ℕ → Result Repeat WalkEnd → Type 0
IsWalkAnswer course horizon (Ok again) = IsFirstRepeat course horizon again
IsWalkAnswer course horizon (Err end) = IsEnd course horizon end
