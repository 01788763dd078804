use Rattle.std.proofs.Common.{◌≡◌, ◌-◌, ◌<◌, ◌≤◌, ℕ}
use Rattle.planner_policies.specs.Plan.{IsValid, planning_of}
use Rattle.release_wheel.specs.Passed.{IsPassed}
use Rattle.release_wheel.specs.Wheel.{IsWheelKept}
use Rattle.release_wheel.proofs.wheel.pass_quiet.Given as goal

-- the cycles that were passed until now are quiet, and the planner stands behind them
abbrev pub invariant-loop-wheel : goal.invariant-loop-wheel
invariant-loop-wheel l = record {
  kept : IsWheelKept l.ranked l.wheel;
  quiet : l.wheel.quiet ≡ l.fn.wheel.quiet;
  slots : l.wheel.dues.waiting.slots ≡ l.fn.wheel.dues.waiting.slots;
  empty : l.fn.wheel.dues.waiting.slots ≡ 0;
  onward : l.fn.wheel.cycle ≤ l.wheel.cycle;
  valid : (c : ℕ) → l.fn.wheel.cycle ≤ c → c ≤ l.wheel.cycle → IsValid l.ranked.placed c l.fn.wheel.dues.waiting.slots;
  until : l.fn.wheel.cycle ≤ l.until → l.wheel.cycle ≤ l.until;
  passed : (window c : ℕ) → l.fn.wheel.cycle ≤ c → c < l.wheel.cycle
      → IsPassed (planning_of l.ranked window c l.fn.wheel.dues.waiting.slots);
}

abbrev pub decreases-loop-wheel : goal.decreases-loop-wheel
decreases-loop-wheel l = l.end - l.wheel.cycle
