use Rattle.std.proofs.Common.{◌≡◌, ℕ, ◌+◌, ◌<◌, ◌≤◌, false, IfSome, slice_get, slice_index_or}
use Rattle.requirement_table.specs.Table.{is_over}
use Rattle.plan_check.proofs.blocks.block_of.Given as goal

abbrev pub invariant-loop-slot : goal.invariant-loop-slot
invariant-loop-slot l = record {
  some : 1 ≤ l.count;
  most : l.count ≤ l.most;
  few : l.count ≤ 256;
  open' : (s : ℕ) → s < l.slot
      → IfSome (slice_get l.placed (slice_index_or l.places s 0)) (λ p. (i : ℕ) → i < l.count → is_over (l.cycle + i) p ≡ false);
}
