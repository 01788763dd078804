-- A frame that is none of the trigger frames, as a node hears it; and what holds after each kind of frame.
use Rattle.std.proofs.Common.{◌≡◌, ℕ, ◌-◌, ◌<◌, ◌==◌, nat_lt, false, cond, arith}
use Rattle.std.proofs.lemmas.Bool.{cond-false, eqb-true, le-ltb, ltb-true, ne_eqb}
use Rattle.profile.specs.Limits.{first_identifier}
use Rattle.can_frame.specs.declared.data_frame.TimedFrame.{TimedFrame}
use Rattle.trigger_kind.specs.Kind.{greatest_trigger, opening_identifier}
use Rattle.node_model.specs.Node.{NodeState, after_hearing, after_noting, after_opening, after_request, after_slot, is_own_slot}
use Rattle.trigger_kind.proofs.Shared.{above-opens_not, opening-low}
use Rattle.node_model.specs.Own.{counting}

-- an identifier above those of trigger frames opens no cycle
pub no-opening : (slots id : ℕ) → greatest_trigger < id → (id == opening_identifier slots) ≡ false
no-opening slots id above = ne_eqb id (opening_identifier slots) (λ same. above-opens_not slots id above same)

-- a frame of such an identifier is one of a slot, or takes away a request, where the node has one
pub other-frame : (node : NodeState) (sent : TimedFrame) → greatest_trigger < sent.frame.identifier
    → after_hearing node sent
    ≡ cond (is_own_slot node.entries sent.frame.identifier) (after_slot (counting node) (sent.frame.identifier - first_identifier))
    (after_request (counting node) sent.frame.identifier)
other-frame node sent above = grind (arith, cond-false, no-opening, nat_lt, le-ltb, opening-low)

-- what holds after each kind of frame holds after a frame
pub after_hearing-keeps : (P : NodeState → Type 0) (node : NodeState) (sent : TimedFrame)
    → (sent.frame.identifier ≡ opening_identifier node.layout.slots → P (after_opening (counting node) sent.frame))
    → (sent.frame.identifier < opening_identifier node.layout.slots → P (after_noting (counting node) sent.frame))
    → P (after_slot (counting node) (sent.frame.identifier - first_identifier))
    → P (after_request (counting node) sent.frame.identifier)
    → P (after_hearing node sent)
after_hearing-keeps P node sent opening noting slot request = grind (arith, nat_lt, eqb-true, ltb-true)
