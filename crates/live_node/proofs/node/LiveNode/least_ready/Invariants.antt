use Rattle.std.proofs.Common.{◌≡◌, ℕ, ◌<◌, false}
use Rattle.live_node.specs.Sending.{may_send}
use Rattle.live_node.proofs.node.LiveNode.least_ready.Given as goal

abbrev pub invariant-loop-slot : goal.invariant-loop-slot
invariant-loop-slot l = record {
  before : (other : ℕ) → other < l.slot → may_send l.self l.into other ≡ false;
}
