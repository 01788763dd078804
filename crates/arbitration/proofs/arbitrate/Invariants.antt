use Rattle.std.proofs.Common.{ℕ, ◌<◌, ◌≤◌, length, slice_index}
use Rattle.arbitration.proofs.arbitrate.Given as goal

-- of the identifiers before this place, the winner's is the least
abbrev pub invariant-loop-place : goal.invariant-loop-place
invariant-loop-place l = record {
  within : l.winner < length l.ids;
  least : (k : ℕ) → k < l.place → slice_index l.ids l.winner ≤ slice_index l.ids k;
}
