use Rattle.std.proofs.Common.{◌≡◌, ◌<◌, ℕ, get_or, length}
use Rattle.release_wheel.proofs.rows.empty_places.Given as goal

abbrev pub invariant-loop-place : goal.invariant-loop-place
invariant-loop-place l = record {
  size : length l.places.items ≡ 64;
  empty : (k : ℕ) → k < l.place → get_or l.places.items k 0 ≡ 0;
}
