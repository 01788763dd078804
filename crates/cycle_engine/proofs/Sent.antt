-- Which slots' frames were sent, as more of them are.
use Rattle.std.proofs.Common.{◌≡◌, ℕ, ◌+◌, ◌≤◌, ◌&&◌, ◌||◌, Bool, true, false, not, cond, nat_eq, List, [], ◌∷◌, ◌++◌, length, drop, Option, Some, refl, sym, ap, ap₂, ◌∙◌, arith}
use Rattle.std.proofs.lemmas.Bool.{eq-eqb, eqb-true, ne_eqb}
use Rattle.std.proofs.lemmas.List.{drop-append-le}
use Rattle.std.proofs.lemmas.List.Folds.{list_any-append}
use Rattle.profile.specs.Limits.{first_identifier}
use Rattle.can_frame.specs.DataFrame.{DataFrame}
use Rattle.can_frame.specs.declared.data_frame.TimedFrame.{TimedFrame}
use Rattle.bit_sets.specs.Sets.{has_bit}
use Rattle.node_model.specs.Node.{NodeState}
use Rattle.node_model.specs.Window.{due_frame, is_due_slot}
use Rattle.cycle_engine.specs.SyncWindow.{due_by, is_among}

-- the frame of a slot that a node is to send has its identifier
chosen-identifier : (due : Bool) (frame found : DataFrame) (later : Option DataFrame) (id : ℕ) → frame.identifier ≡ id
    → (later ≡ Some found → found.identifier ≡ id) → cond due (Some frame) later ≡ Some found → found.identifier ≡ id
chosen-identifier due frame found later id own rest is = grind arith

pub due-identifier : (nodes : List NodeState) (slot : ℕ) (frame : DataFrame) → due_by nodes slot ≡ Some frame → frame.identifier ≡ first_identifier + slot
due-identifier [] slot frame is = absurd (cc)
due-identifier (node ∷ later) slot frame is =
    chosen-identifier (is_due_slot node slot) (due_frame node slot) frame (due_by later slot) (first_identifier + slot) refl (due-identifier later slot frame) is

-- a frame of a slot is that of no other slot
same-slot : (id slot own : ℕ) → id ≡ first_identifier + own → nat_eq id (first_identifier + slot) ≡ nat_eq slot own
same-slot id slot own is = grind (arith, eq-eqb, ne_eqb)

or-none : (b : Bool) → (b || false) ≡ b
or-none b = grind arith

-- behind some frames, one more
pub among-more : (old out new : List TimedFrame) (sent : TimedFrame) (slot own : ℕ) → length old ≤ length out → new ≡ out ++ sent ∷ []
    → sent.frame.identifier ≡ first_identifier + own
    → is_among slot (drop (length old) new) ≡ (is_among slot (drop (length old) out) || nat_eq slot own)
among-more old out new sent slot own long is id = grind (arith, drop-append-le, list_any-append, or-none, same-slot)

moved : (among left same : Bool) → (same ≡ true → left ≡ true) → (among || left) ≡ ((among || same) || (not same && left))
moved among left same has = grind arith

-- a slot that is still left was left before
left-of : (left same : Bool) → (not same && left) ≡ true → left ≡ true
left-of left same is = grind arith

pub left-before : (left rest slot own : ℕ) → has_bit rest slot ≡ (not (nat_eq slot own) && has_bit left slot)
    → has_bit rest slot ≡ true → has_bit left slot ≡ true
left-before left rest slot own without has = left-of (has_bit left slot) (nat_eq slot own) (sym without ∙ has)

-- a slot goes over from those that are left to those that were sent
pub left-more : (set left rest slot own : ℕ) (before after : List TimedFrame) → has_bit left own ≡ true
    → is_among slot after ≡ (is_among slot before || nat_eq slot own) → has_bit rest slot ≡ (not (nat_eq slot own) && has_bit left slot)
    → has_bit set slot ≡ (is_among slot before || has_bit left slot) → has_bit set slot ≡ (is_among slot after || has_bit rest slot)
left-more set left rest slot own before after has more without all =
    all
    ∙ moved (is_among slot before) (has_bit left slot) (nat_eq slot own) (λ same. ap (has_bit left) (same-number slot own same) ∙ has)
    ∙ sym (ap₂ (λ a l. a || l) more without)
  where
    same-number : (a b : ℕ) → nat_eq a b ≡ true → a ≡ b
    same-number a b same = eqb-true a b same

pub apart-more : (left rest slot own : ℕ) (before after : List TimedFrame) → is_among slot after ≡ (is_among slot before || nat_eq slot own)
    → has_bit rest slot ≡ (not (nat_eq slot own) && has_bit left slot) → (has_bit left slot ≡ true → is_among slot before ≡ false)
    → has_bit rest slot ≡ true → is_among slot after ≡ false
apart-more left rest slot own before after more without apart has = grind arith

-- the slots of a set that are not left are those whose frames were sent
gone : (among left : Bool) → (left ≡ true → among ≡ false) → ((among || left) && not left) ≡ among
gone among left apart = grind arith

pub sent-slots : (sent set left slot : ℕ) (frames : List TimedFrame) → has_bit sent slot ≡ (has_bit set slot && not (has_bit left slot))
    → has_bit set slot ≡ (is_among slot frames || has_bit left slot) → (has_bit left slot ≡ true → is_among slot frames ≡ false)
    → has_bit sent slot ≡ is_among slot frames
sent-slots sent set left slot frames is all apart = grind (arith, gone)

-- no slot beyond all of them
none-sent : (among left : Bool) → false ≡ (among || left) → among ≡ false
none-sent among left is = grind arith

pub sent-none : (sent set left slot : ℕ) (frames : List TimedFrame) → has_bit sent slot ≡ false → has_bit set slot ≡ false
    → has_bit set slot ≡ (is_among slot frames || has_bit left slot) → has_bit sent slot ≡ is_among slot frames
sent-none sent set left slot frames off none all = grind (arith, none-sent)
