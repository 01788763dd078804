use Rattle.std.proofs.Common.{◌≡◌, ◌-◌, ◌≤◌, length, vec_capacity}
use Rattle.std.specs.Vec.{vec_len}
use Rattle.release_wheel.proofs.rows.resize.Given as goal

abbrev pub invariant-loop-item : goal.invariant-loop-item
invariant-loop-item g l = record {
  room : l.count ≤ vec_capacity l.list;
  within : vec_len l.list ≤ l.count;
  size : length l.list.items ≡ vec_len l.list;
}

abbrev pub decreases-loop-item : goal.decreases-loop-item
decreases-loop-item g l = l.count - vec_len l.list
