use Rattle.std.proofs.Common.{◌≤◌}
use Rattle.plan_check.proofs.blocks.cycles_of_blocks.Given as goal

abbrev pub invariant-loop-p : goal.invariant-loop-p
invariant-loop-p l = record {
  some : 1 ≤ l.common;
  few : l.common ≤ 256;
}
