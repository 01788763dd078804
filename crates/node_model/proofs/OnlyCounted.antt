-- A frame with an identifier of a trigger frame, but above that of the last one of a cycle, is only counted.
use Rattle.std.proofs.Common.{◌≡◌, ℕ, ◌<◌, ◌≤◌, nat_lt, false, List, arith}
use Rattle.std.proofs.lemmas.Bool.{cond-false, le-ltb, ne_eqb}
use Rattle.std.proofs.lemmas.List.Folds.{list_any_none}
use Rattle.can_frame.specs.declared.data_frame.TimedFrame.{TimedFrame}
use Rattle.node_model.proofs.Hearing.{without_first-none}
use Rattle.requirement_table.specs.declared.entries.Placed.{Placed}
use Rattle.trigger_kind.specs.Kind.{greatest_trigger, opening_identifier}
use Rattle.node_model.specs.Node.{IsNode, NodeState, after_hearing, is_own_slot}
use Rattle.node_model.specs.Own.{counting}

-- the identifier is that of no slot
no_slot : (entries : List Placed) (id : ℕ) → id ≤ greatest_trigger → is_own_slot entries id ≡ false
no_slot entries id low = grind (arith, list_any_none, ne_eqb)

pub only_counted : (node : NodeState) (sent : TimedFrame) → IsNode node → opening_identifier node.layout.slots < sent.frame.identifier
    → sent.frame.identifier ≤ greatest_trigger → after_hearing node sent ≡ counting node
only_counted node sent is behind low = grind (arith, cond-false, ne_eqb, nat_lt, le-ltb, no_slot, without_first-none)
