use Rattle.std.proofs.Common.{◌≡◌, ◌+◌, ◌≤◌, ℕ, length, Some}
use Rattle.std.specs.Prelude.{Option}
use Rattle.std.specs.Vec.{vec_capacity, vec_len}
use Rattle.recurrence_check.specs.Keys.{IsSparse, MeetsRun, table}
use Rattle.recurrence_check.proofs.by_keys.append.Given as goal

-- the row ends with what was put down so far, and has room for the others
abbrev pub invariant-loop-behind : goal.invariant-loop-behind
invariant-loop-behind l = record {
  long : length l.row.items ≡ l.place + l.behind;
  room : vec_len l.row + l.count ≤ vec_capacity l.row + l.behind;
  met : (others : ℕ × ℕ → Option ℕ) → IsSparse l.fn.row.items others
      → MeetsRun (table l.fn.row.items others) (table l.row.items others) (Some (l.mark, l.place)) l.steps l.behind;
  sparse : (others : ℕ × ℕ → Option ℕ) → IsSparse l.fn.row.items others → IsSparse l.row.items others;
}
