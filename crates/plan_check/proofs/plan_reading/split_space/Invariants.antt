use Rattle.std.proofs.Common.{◌≢◌, ℕ, ◌<◌, ◌≤◌, length, get_or}
use Rattle.plan_check.proofs.plan_reading.split_space.Given as goal

abbrev pub invariant-loop-place : goal.invariant-loop-place
invariant-loop-place l = (k : ℕ) → l.place ≤ k → k < length l.line → get_or l.line k 0 ≢ 32
