-- The trigger frames of a cycle, however many there are, as a node hears them: they open the cycle.
use Rattle.std.proofs.Common.{◌≡◌, ℕ, ◌+◌, ◌^◌, ◌<◌, ◌≤◌, nat_lt, Some, None, List, [], ◌∷◌, map, All, sym, ap, ◌∙◌, subst, arith}
use Rattle.std.specs.Prelude.{fold}
use Rattle.std.proofs.lemmas.Bool.{cond-false, cond-true, eq-eqb, lt-ltb, ne_eqb}
use Rattle.can_frame.specs.DataFrame.{DataFrame}
use Rattle.can_frame.specs.declared.data_frame.TimedFrame.{TimedFrame}
use Rattle.trigger_kind.specs.Kind.{greatest_trigger, opening_identifier, triggers_of}
use Rattle.cycle_layout.specs.Layout.{IsLayout}
use Rattle.trigger_codec.specs.Bytes.{triggers_with}
use Rattle.trigger_codec.proofs.Shared.{OpensByLast, heard-in_turn, heard_in_turn, last_opens, sent-low}
use Rattle.node_model.specs.Node.{NodeState, Opened, after_hearing, after_noting, after_opening, opened_by}
use Rattle.node_model.specs.Own.{counting}

abbrev frames_of : List TimedFrame → List DataFrame
frames_of sent = map (λ one. one.frame) sent

-- the cycle as the frames open it
abbrev pub opened_with : ℕ → ℕ → ℕ → Opened
opened_with cycle l mask = record { cycle = cycle; width = l; mask = mask; heard = 0 }

-- a node whose next cycle was opened with this window and these flags, and that heard so many frames
abbrev pub opening_done : NodeState → ℕ → ℕ → ℕ → NodeState
opening_done node l mask frames =
    record node { opened = Some (opened_with node.next l mask); next = node.next + 1; frames = frames; noted = None }

-- the last of them opens the cycle
hears-last : (node : NodeState) (sent : TimedFrame) → sent.frame.identifier ≡ opening_identifier node.layout.slots
    → after_hearing node sent ≡ after_opening (counting node) sent.frame
hears-last node sent last = grind (arith, cond-true, eq-eqb)

-- one before it is noted
pub hears-earlier : (node : NodeState) (sent : TimedFrame) → sent.frame.identifier < opening_identifier node.layout.slots
    → after_hearing node sent ≡ after_noting (counting node) sent.frame
hears-earlier node sent earlier = grind (arith, cond-false, ne_eqb, cond-true, nat_lt, lt-ltb)

-- a node that heard frames of which the last one opens the next cycle, by what they say in turn
abbrev opened_in_turn : NodeState → List TimedFrame → ℕ → NodeState
opened_in_turn node sent frames = record node {
  opened = Some (opened_by node.next (heard_in_turn (triggers_of node.layout.slots) node.layout.window node.next node.noted (frames_of sent)));
  next = node.next + 1;
  frames = frames;
  noted = None;
}

hears-in_turn : (sent : List TimedFrame) (node : NodeState) → OpensByLast (opening_identifier node.layout.slots) (frames_of sent)
    → (frames : ℕ) × (fold after_hearing node sent ≡ opened_in_turn node sent frames)
hears-in_turn [] node none = absurd none
hears-in_turn (one ∷ []) node last = ((counting node).frames, hears-last node one last)
hears-in_turn (one ∷ next ∷ more) node (earlier, opens) =
    let rest = hears-in_turn (next ∷ more) (after_noting (counting node) one.frame) opens in
    (rest.0, ap (λ n. fold after_hearing n (next ∷ more)) (hears-earlier node one earlier) ∙ rest.1)

-- the trigger frames open the next cycle, with their window and flags
pub opens-next : (node : NodeState) (l mask : ℕ) → IsLayout node.layout → l ≤ node.layout.window → mask < 2 ^ node.layout.slots
    → (sent : List TimedFrame) → frames_of sent ≡ triggers_with node.layout.slots node.next l mask
    → (frames : ℕ) × (fold after_hearing node sent ≡ opening_done node l mask frames)
opens-next node l mask is small below sent are =
    let slots = node.layout.slots in
    let turn = hears-in_turn sent node (subst (OpensByLast (opening_identifier slots)) (sym are) (last_opens slots node.next l mask)) in
    grind (arith, heard_in_turn, heard-in_turn)

pub opens-cycle : (node : NodeState) (l mask : ℕ) (sent : List TimedFrame) → IsLayout node.layout → l ≤ node.layout.window → mask < 2 ^ node.layout.slots
    → frames_of sent ≡ triggers_with node.layout.slots node.next l mask
    → (fold after_hearing node sent).opened ≡ Some (record { cycle = node.next; width = l; mask = mask; heard = 0 })
opens-cycle node l mask sent is small below are = ap (λ (n : NodeState). n.opened) (opens-next node l mask is small below sent are).1

-- the identifiers of trigger frames are below those of all other frames
abbrev pub IsOfTrigger : TimedFrame → Type 0
IsOfTrigger one = one.frame.identifier ≤ greatest_trigger

pub trigger-identifiers : (slots cycle l mask : ℕ) (sent : List TimedFrame) → frames_of sent ≡ triggers_with slots cycle l mask → All IsOfTrigger sent
trigger-identifiers slots cycle l mask sent are = sent-low slots cycle l mask sent are
