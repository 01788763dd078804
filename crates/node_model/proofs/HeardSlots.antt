-- A node that hears frames of slots: it counts them, and marks those of its slots.
use Rattle.std.proofs.Common.{◌≡◌, ℕ, ◌+◌, ◌-◌, ◌^◌, ◌<◌, ◌≤◌, Bool, true, false, ◌&&◌, ◌||◌, ◌==◌, cond, Option, Some, None, IfSome, List, [], ◌∷◌, All, length, min, option_map, refl, ap, ◌∙◌, arith}
use Rattle.std.specs.Prelude.{fold}
use Rattle.std.specs.List.{list_any}
use Rattle.std.proofs.lemmas.Bool.{eq-eqb, ne_eqb, eqb-true, lt-ltb, false≢true}
use Rattle.std.proofs.lemmas.List.Elements.{All-head, All-tail}
use Rattle.profile.specs.Limits.{first_identifier}
use Rattle.can_frame.specs.declared.data_frame.TimedFrame.{TimedFrame}
use Rattle.requirement_table.specs.declared.entries.Placed.{Placed}
use Rattle.bit_sets.specs.Sets.{has_bit, set_of, most_slots}
use Rattle.bit_sets.proofs.Shared.{has_bit-set_of, set_of-below, set_of-same, set_of-from_slots}
use Rattle.node_model.specs.Node.{NodeState, Opened, after_hearing, counted, is_own_slot, with_heard}
use Rattle.node_model.specs.Kept.{AreSlotsOf}
use Rattle.node_model.specs.Window.{AreOfSlots, with_all_heard}
use Rattle.node_model.proofs.Hearing.{without_first-none}
use Rattle.node_model.proofs.Known.{own-slot}
use Rattle.node_model.proofs.OtherFrames.{other-frame}

-- the frame is one of a slot
abbrev pub IsOfSlot : TimedFrame → Type 0
IsOfSlot one = (first_identifier ≤ one.frame.identifier) × (one.frame.identifier < first_identifier + most_slots)

-- the open cycle, where there is one, of a node that heard a frame of a slot
abbrev pub marked : List Placed → Option Opened → TimedFrame → Option Opened
marked entries opened one =
    cond (is_own_slot entries one.frame.identifier) (option_map (with_heard (one.frame.identifier - first_identifier)) opened) opened

abbrev counted_all : ℕ → ℕ → ℕ
counted_all n k = min (n + k) (2 ^ 64 - 1)

-- one frame
pub hear-one : (node : NodeState) (one : TimedFrame) → All (λ box. 0x200 ≤ box.identifier) node.mail → IsOfSlot one
    → after_hearing node one ≡ record node { frames = counted node.frames; opened = marked node.entries node.opened one }
hear-one node one mail of_slot = grind (arith, other-frame, without_first-none)

hear-all : (frames : List TimedFrame) (node : NodeState) → node.frames < 2 ^ 64 → All (λ box. 0x200 ≤ box.identifier) node.mail → All IsOfSlot frames
    → fold after_hearing node frames
    ≡ record node { frames = counted_all node.frames (length frames); opened = fold (marked node.entries) node.opened frames }
hear-all [] node small mail of_slots = grind arith
hear-all (one ∷ later) node small mail of_slots =
    let next : NodeState = record node { frames = counted node.frames; opened = marked node.entries node.opened one } in
    let sum : counted_all (counted node.frames) (length later) ≡ counted_all node.frames (length (one ∷ later)) = omega arith in
    ap (λ n. fold after_hearing n later) (hear-one node one mail (All-head IsOfSlot one later of_slots))
    ∙ hear-all later next (omega arith) mail (All-tail IsOfSlot one later of_slots)
    ∙ ap (λ n. record node { frames = n; opened = fold (marked node.entries) (marked node.entries node.opened one) later }) sum

-- whether the node has an entry in the slot, and a frame of it is among these
abbrev has_entry : List Placed → ℕ → Bool
has_entry entries slot = list_any (λ p. p.entry.slot == slot) entries

abbrev own_heard : List Placed → List TimedFrame → ℕ → Bool
own_heard entries frames slot = has_entry entries slot && list_any (λ one. one.frame.identifier == first_identifier + slot) frames

abbrev heard_with : Opened → (ℕ → Bool) → Opened
heard_with opened p = record opened { heard = set_of most_slots (λ slot. has_bit opened.heard slot || p slot) }

and_none : (b c : Bool) → b ≡ (b || (c && false))
and_none b c = grind arith

-- a slot that is marked now, or was, or will be
marks-own : (here was own later : Bool) → (here ≡ true → own ≡ true) → ((here || was) || (own && later)) ≡ (was || (own && (here || later)))
marks-own here was own later its = grind (arith, false≢true)

cond-same : (own : Bool) (o : Option Opened) → cond own o o ≡ o
cond-same own o = grind arith

module _ (entries : List Placed) where
  mark-step : (own : Bool) (one : TimedFrame) (later : List TimedFrame) (opened : Opened) → is_own_slot entries one.frame.identifier ≡ own → IsOfSlot one
      → opened.heard < 2 ^ most_slots
      → ((other : Opened) → other.heard < 2 ^ most_slots → fold (marked entries) (Some other) later ≡ Some (heard_with other (own_heard entries later)))
      → fold (marked entries) (cond own (Some (with_heard (one.frame.identifier - first_identifier) opened)) (Some opened)) later
      ≡ Some (heard_with opened (own_heard entries (one ∷ later)))
  mark-step true one later opened is of_slot small rest =
      let id = one.frame.identifier in
      let k = id - first_identifier in
      let now = with_heard k opened in
      let within : (slot : ℕ) → slot < most_slots → (has_bit now.heard slot || own_heard entries later slot)
      ≡ (has_bit opened.heard slot || own_heard entries (one ∷ later) slot) =
      grind (arith, own-slot, eqb-true, eq-eqb, ne_eqb, has_bit-set_of, lt-ltb, marks-own) in
      grind (arith, set_of-below, set_of-same)
  mark-step false one later opened is of_slot small rest = grind (arith, own-slot, eqb-true, set_of-same)

  mark-all : (frames : List TimedFrame) → All IsOfSlot frames → (opened : Opened) → opened.heard < 2 ^ most_slots
      → fold (marked entries) (Some opened) frames ≡ Some (heard_with opened (own_heard entries frames))
  mark-all [] of_slots opened small =
      ap (λ n. Some (record opened { heard = n }))
      (set_of-from_slots most_slots opened.heard (λ slot. has_bit opened.heard slot || own_heard entries [] slot) small
      (λ slot _. and_none (has_bit opened.heard slot) (has_entry entries slot)))
  mark-all (one ∷ later) of_slots opened small =
      mark-step (is_own_slot entries one.frame.identifier) one later opened refl (All-head IsOfSlot one later of_slots) small
      (mark-all later (All-tail IsOfSlot one later of_slots))

  mark-nothing : (frames : List TimedFrame) → fold (marked entries) None frames ≡ None
  mark-nothing [] = refl
  mark-nothing (one ∷ later) =
      ap (λ o. fold (marked entries) o later) (cond-same (is_own_slot entries one.frame.identifier) None) ∙ mark-nothing later

  -- the open cycle behind frames of which these are the slots
  pub mark-sent : (own sent mine : ℕ) (frames : List TimedFrame) (opened : Option Opened) → AreSlotsOf entries own → AreOfSlots sent frames
      → ((slot : ℕ) → has_bit mine slot ≡ (has_bit own slot && has_bit sent slot))
      → IfSome opened (λ o. o.heard < 2 ^ most_slots) → option_map (with_all_heard mine) opened ≡ fold (marked entries) opened frames
  mark-sent own sent mine frames opened are of_slots common small = grind (arith, mark-nothing, set_of-same, mark-all)

-- what the node knows once it has heard frames of slots
pub heard-slots : (node : NodeState) (frames : List TimedFrame) (count : ℕ) (opened : Option Opened) → node.frames < 2 ^ 64
    → All (λ box. 0x200 ≤ box.identifier) node.mail → All IsOfSlot frames → count ≡ counted_all node.frames (length frames)
    → opened ≡ fold (marked node.entries) node.opened frames
    → record node { frames = count; opened = opened } ≡ fold after_hearing node frames
heard-slots node frames count opened small mail of_slots sum marks = grind (arith, hear-all)
