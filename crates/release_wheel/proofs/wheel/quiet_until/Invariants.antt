use Rattle.std.proofs.Common.{◌≡◌, ◌≤◌, ◌<◌, ◌+◌, ◌%◌, ℕ, get_or}
use Rattle.release_wheel.proofs.wheel.quiet_until.Given as goal

abbrev pub invariant-loop : goal.invariant-loop
invariant-loop l = record {
  near : l.quiet ≤ l.cycle + l.counter;
  empty : (c : ℕ) → l.cycle ≤ c → c < l.quiet → get_or l.places (c % 64) 0 ≡ 0;
}
