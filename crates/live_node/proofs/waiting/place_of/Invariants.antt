use Rattle.std.proofs.Common.{◌≡◌, ◌≢◌, ℕ, ◌<◌, get_or}
use Rattle.live_node.specs.Live.{Waiting}
use Rattle.live_node.proofs.waiting.place_of.Given as goal

abbrev pub invariant-loop-place : goal.invariant-loop-place
invariant-loop-place l = record {
  before : (k : ℕ) (d : Waiting) → k < l.place → (get_or l.boxes k d).identifier ≢ l.id;
}
