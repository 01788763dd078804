use Rattle.std.proofs.Common.{◌≡◌, ℕ, ◌<◌, ◌≤◌, ◌&&◌}
use Rattle.bit_sets.specs.Sets.{has_bit}
use Rattle.live_node.specs.Sending.{has_set}
use Rattle.live_node.proofs.node.LiveNode.with_bytes.Given as goal

abbrev pub invariant-loop-slot : goal.invariant-loop-slot
invariant-loop-slot l = record {
  done : (other : ℕ) → other < l.slot → has_bit l.fitting other ≡ (has_bit l.fn.slots other && has_set l.self other);
  left : (other : ℕ) → l.slot ≤ other → has_bit l.fitting other ≡ has_bit l.fn.slots other;
}
