-- A node that noted a trigger frame that is not the last one offers nothing: the cycle that is open for it has ended.
use Rattle.std.proofs.Common.{◌≡◌, ℕ, ◌/◌, ◌<◌, ◌≤◌, None, arith}
use Rattle.can_frame.specs.declared.data_frame.TimedFrame.{TimedFrame}
use Rattle.trigger_kind.specs.Kind.{opening_identifier}
use Rattle.node_model.specs.Node.{IsNode, NodeState, after_hearing, node_offer}
use Rattle.node_model.proofs.Triggers.{hears-earlier}

pub quiet-between : (node : NodeState) (sent : TimedFrame) (at : ℕ) → IsNode node
    → sent.frame.identifier < opening_identifier node.layout.slots → node.next ≤ at / node.layout.cycle → node_offer (after_hearing node sent) at ≡ None
quiet-between node sent at is earlier later = grind (arith, hears-earlier)
