use Rattle.std.proofs.Common.{ℕ, ◌<◌, ◌≤◌}
use Rattle.plan_check.specs.Blocks.{IsClearFor, IsFilledFor}
use Rattle.plan_check.proofs.blocks.fill.Given as goal

abbrev pub invariant-loop-slot : goal.invariant-loop-slot
invariant-loop-slot l = record {
  filled : (s : ℕ) → s < l.slot → IsFilledFor l.placed l.from l.count s l.block;
  clear : (s : ℕ) → l.slot ≤ s → IsClearFor l.count s l.block;
}
