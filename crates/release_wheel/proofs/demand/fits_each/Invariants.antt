use Rattle.std.proofs.Common.{◌-◌, ◌<◌, ◌≤◌, ℕ}
use Rattle.release_wheel.specs.Demand.{demand_in}
use Rattle.release_wheel.proofs.demand.fits_each.Given as goal

abbrev pub invariant-loop-start : goal.invariant-loop-start
invariant-loop-start l = (c : ℕ) → l.from ≤ c → c < l.start → c < l.until → demand_in l.placed c ≤ l.w

abbrev pub decreases-loop-start : goal.decreases-loop-start
decreases-loop-start l = l.until - l.start
