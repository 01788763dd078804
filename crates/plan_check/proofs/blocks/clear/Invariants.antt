use Rattle.std.proofs.Common.{◌≡◌, ℕ, length}
use Rattle.plan_check.specs.Blocks.{IsClearFor}
use Rattle.plan_check.proofs.blocks.clear.Given as goal

abbrev pub invariant-loop-i : goal.invariant-loop-i
invariant-loop-i l = record {
  released : length l.block.released ≡ 256;
  ends : length l.block.ends ≡ 256;
  clear : (slot : ℕ) → IsClearFor l.i slot l.block;
}
