-- A node in the synchronous window of its open cycle: what it offers, with which frames, and how it goes on as it hears
-- those of slots.
use Rattle.std.proofs.Common.{◌≡◌, ℕ, ◌+◌, ◌-◌, ◌/◌, ◌<◌, ◌≤◌, Bool, true, false, ◌&&◌, ◌||◌, ◌==◌, not, cond, eqb, leb, is_some, Option, None, MatchOption, List, [], ◌∷◌, option_map, slice_get, refl, sym, ap, ◌∙◌, arith}
use Rattle.std.proofs.lemmas.Grind.{common_steps}
use Rattle.std.specs.Option.{option_map_or}
use Rattle.std.specs.List.{cons_option, filter_map, list_any}
use Rattle.std.proofs.Math.Nat.{div-eq_of_lt-le}
use Rattle.std.proofs.lemmas.Bool.{eqb-true, eq-eqb, le-leb, lt-leb, lt-ltb, cond-false, false≢true}
use Rattle.profile.specs.Limits.{first_identifier}
use Rattle.can_frame.specs.declared.data_frame.TimedFrame.{TimedFrame}
use Rattle.requirement_table.specs.declared.entries.Placed.{Placed}
use Rattle.bit_sets.specs.Sets.{most_slots}
use Rattle.requirement_table.specs.Instance.{bytes_of, instance_of}
use Rattle.requirement_table.specs.Table.{instance_in, sendable}
use Rattle.bit_sets.proofs.Shared.{has_bit-set_of, least_where-same, least_where-least}
use Rattle.bit_sets.specs.Least.{least_where}
use Rattle.node_model.specs.Node.{IsNode, NodeState, Opened, after_hearing, is_due, is_own_slot, node_frame, node_offer, with_heard}
use Rattle.node_model.specs.Window.{IsInWindow, due_frame, is_due_slot}
use Rattle.trigger_kind.specs.Kind.{greatest_trigger}
use Rattle.node_model.proofs.OtherFrames.{other-frame}
use Rattle.node_model.proofs.HeardSlots.{hear-one, marked}
use Rattle.node_model.proofs.Known.{own-slot}

-- a time of the window lies in the open cycle
time-in : (node : NodeState) (from until at : ℕ) (is : IsInWindow from until node) → IsNode node → from ≤ at → at < until
    → at / node.layout.cycle ≡ is.opened.cycle
time-in node from until at is known begun early = grind (arith, div-eq_of_lt-le)

offers-least : (node : NodeState) (from until at : ℕ) → IsNode node → IsInWindow from until node → from ≤ at → at < until
    → node_offer node at ≡ option_map (λ slot. first_identifier + slot) (least_where most_slots (is_due_slot node))
offers-least node from until at known is begun early =
    grind (arith, common_steps, eqb, leb, eq-eqb, time-in, le-leb, option_map, least_where-same)

pub offers-due : (node : NodeState) (from until at : ℕ) → IsNode node → IsInWindow from until node → from ≤ at → at < until
    → MatchOption (node_offer node at) ((slot : ℕ) → slot < most_slots → is_due_slot node slot ≡ false)
    (λ id. (slot : ℕ) × (slot < most_slots) × (id ≡ first_identifier + slot) × (is_due_slot node slot ≡ true)
    × ((other : ℕ) → other < slot → is_due_slot node other ≡ false))
offers-due node from until at known is begun early = grind (arith, least_where-least, offers-least)

pub frames-due : (node : NodeState) (from until at slot : ℕ) → IsNode node → IsInWindow from until node → from ≤ at → at < until → slot < most_slots
    → node_frame node at (first_identifier + slot) ≡ due_frame node slot
frames-due node from until at slot known is begun early within =
    let id = first_identifier + slot in
    let bytes_at : ℕ → ℕ → List ℕ = λ s cycle. option_map_or bytes_of (instance_in node.entries s cycle) [] in
    let its : id - first_identifier ≡ slot = omega arith in
    ap (λ bytes. record { identifier = id; bytes = bytes })
    (cond-false (leb 0x200 id) _ _ (lt-leb 0x200 id (omega (arith, within)))
    ∙ ap (λ s. bytes_at s (at / node.layout.cycle)) its
    ∙ ap (bytes_at slot) (time-in node from until at is known begun early)
    ∙ ap (λ opened. option_map_or (λ x. bytes_at slot x.cycle) opened []) (sym is.is_open))

abbrev IsOfSlot : TimedFrame → Type 0
IsOfSlot one = (first_identifier ≤ one.frame.identifier) × (one.frame.identifier < first_identifier + most_slots)

pub stays-in_window : (node : NodeState) (from until : ℕ) (one : TimedFrame) → greatest_trigger < one.frame.identifier → IsInWindow from until node
    → IsInWindow from until (after_hearing node one)
stays-in_window node from until one other is = grind (arith, common_steps, other-frame, marked)

pub frame-kept : (node : NodeState) (k slot : ℕ) (one : TimedFrame) → IsNode node → one.frame.identifier ≡ first_identifier + k → k < most_slots
    → due_frame (after_hearing node one) slot ≡ due_frame node slot
frame-kept node k slot one known is inside = grind (arith, hear-one)

due-one : (entries : List Placed) (own : Bool) (k slot : ℕ) (opened : Option Opened) → slot < most_slots
    → (own ≡ false → slot ≡ k → (cycle : ℕ) → is_some (instance_in entries slot cycle) ≡ false)
    → option_map_or (λ x. is_due entries x slot) (cond own (option_map (with_heard k) opened) opened) false
    ≡ (not (slot == k) && option_map_or (λ x. is_due entries x slot) opened false)
due-one entries own k slot opened within none = grind (arith, is_some, has_bit-set_of, lt-ltb, eqb-true)

neither : (a b : Bool) → (a || b) ≡ false → (a ≡ false) × (b ≡ false)
neither a b none = grind (arith, false≢true)

no_instance : (entries : List Placed) (slot cycle : ℕ) → list_any (λ p. p.entry.slot == slot) entries ≡ false → is_some (instance_in entries slot cycle) ≡ false
no_instance [] slot cycle none = refl
no_instance (p ∷ rest) slot cycle none =
    let parts = neither (p.entry.slot == slot) (list_any (λ q. q.entry.slot == slot) rest) none in
    ap (λ b. is_some (slice_get (cons_option (cond b (option_map (λ k. record { placed = p; number = k }) (instance_of p cycle)) None)
    (filter_map (sendable slot cycle) rest)) 0)) parts.0
    ∙ no_instance rest slot cycle parts.1

-- the frame of a slot takes that slot away, and no other one
pub due-kept : (node : NodeState) (k slot : ℕ) (one : TimedFrame) → IsNode node → one.frame.identifier ≡ first_identifier + k → k < most_slots → slot < most_slots
    → is_due_slot (after_hearing node one) slot ≡ (not (slot == k) && is_due_slot node slot)
due-kept node k slot one known is inside within =
    let id = one.frame.identifier in
    let its : id - first_identifier ≡ k = omega (arith, is) in
    ap (λ n. is_due_slot n slot) (hear-one node one known.mail.least (omega (arith, is), omega (arith, is, inside)))
    ∙ ap (λ n. option_map_or (λ x. is_due node.entries x slot) (cond (is_own_slot node.entries id) (option_map (with_heard n) node.opened) node.opened) false) its
    ∙ due-one node.entries (is_own_slot node.entries id) k slot node.opened within
    (λ none same cycle. grind (arith, no_instance, own-slot))
