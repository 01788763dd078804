use Rattle.std.proofs.Common.{◌≡◌, ◌-◌, ◌≤◌, ℕ, None, length, slice_index_or}
use Rattle.std.specs.Vec.{vec_capacity, vec_len}
use Rattle.recurrence_check.proofs.by_keys.reach.Given as goal

abbrev pub invariant-loop-row : goal.invariant-loop-row
invariant-loop-row l = record {
  within : vec_len l.row ≤ l.fn.place;
  room : l.fn.place ≤ vec_capacity l.row;
  same : (other : ℕ) → slice_index_or l.row.items other None ≡ slice_index_or l.fn.row.items other None;
}

abbrev pub decreases-loop-row : goal.decreases-loop-row
decreases-loop-row l = l.fn.place - vec_len l.row
