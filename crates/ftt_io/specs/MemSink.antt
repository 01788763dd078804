-- What contracts see of a sink in memory.
use Rattle.std.specs.Prelude.{ℕ, ◌||◌, Bool, List, length, nat_le}
use Rattle.ftt_io.specs.Calls.{is_failing}

-- the bytes taken, how many there is room for in all, the numbers of the puts that fail, and the counts
pub record MemSinkState : Type 0 where
  pub taken : List ℕ
  pub room : ℕ
  pub failing : List ℕ
  pub puts : ℕ
  pub faults : ℕ

-- whether the next put fails: its number says so, or no room is left
abbrev pub fails_next : MemSinkState → Bool
fails_next sink = is_failing sink.failing sink.puts || nat_le sink.room (length sink.taken)
