-- What the joint node hears, each of its parts hears.
use Rattle.std.proofs.Common.{◌≡◌, ℕ, ◌+◌, ◌-◌, ◌<◌, ◌≤◌, ◌&&◌, ◌||◌, ◌==◌, Bool, true, false, cond, List, [], ◌∷◌, ◌++◌, drop, All, Option, Some, refl, sym, ap, ◌∙◌, arith}
use Rattle.std.specs.Prelude.{fold, nat_lt}
use Rattle.std.specs.Option.{option_map}
use Rattle.std.proofs.lemmas.Bool.{eqb-true, lt-ltb, false≢true}
use Rattle.std.proofs.lemmas.List.Sums.{fold-append}
use Rattle.profile.specs.Limits.{first_identifier}
use Rattle.can_frame.specs.DataFrame.{DataFrame}
use Rattle.can_frame.specs.declared.data_frame.TimedFrame.{TimedFrame}
use Rattle.requirement_table.specs.declared.entries.Placed.{Placed}
use Rattle.bit_sets.specs.Sets.{has_bit, set_of, most_slots}
use Rattle.requirement_table.specs.Table.{IsInRange}
use Rattle.bit_sets.proofs.Shared.{has_bit-none, has_bit-set_of, set_of-same, set_of-from_slots}
use Rattle.trigger_codec.specs.declared.message.Trigger.{Trigger}
use Rattle.async_window.specs.declared.request.Owner.{Owner}
use Rattle.async_window.specs.Mailbox.{Mail, unsent_of, without_first}
use Rattle.trigger_kind.specs.Kind.{opening_identifier}
use Rattle.node_model.specs.Node.{NodeState, Opened, after_hearing, after_noting, after_opening, after_request, after_slot, counted, entries_of, identifiers_of, is_own_slot, opened_by, opening_trigger, with_heard}
use Rattle.cycle_engine.specs.Joint.{joint_entries, own_opened, part_of}
use Rattle.cycle_engine.proofs.Hearing.{kept_by}
use Rattle.cycle_engine.proofs.JointEntries.{own-id, own-of_all, slots-joint}
use Rattle.cycle_engine.proofs.JointMail.{taken-of, taken-none}

-- The slots of which a frame was heard

-- in a cycle that is just opened there are none
pub own-fresh : (entries : List Placed) (cycle width mask : ℕ)
    → own_opened entries (record { cycle = cycle; width = width; mask = mask; heard = 0 }) ≡ record { cycle = cycle; width = width; mask = mask; heard = 0 }
own-fresh entries cycle width mask =
    let none : (slot : ℕ) → (has_bit 0 slot && is_own_slot entries (first_identifier + slot)) ≡ has_bit 0 slot =
    λ slot. ap (λ b. b && is_own_slot entries (first_identifier + slot)) (has_bit-none slot) ∙ sym (has_bit-none slot) in
    ap (λ n. record { cycle = cycle; width = width; mask = mask; heard = n })
    (sym (set_of-from_slots most_slots 0 (λ slot. has_bit 0 slot && is_own_slot entries (first_identifier + slot)) (omega arith)
    (λ slot within. sym (none slot))))

own-opening : (entries : List Placed) (cycle : ℕ) (trigger : Option Trigger) → own_opened entries (opened_by cycle trigger) ≡ opened_by cycle trigger
own-opening entries cycle trigger = grind (arith, own-fresh)

not-marked : (here heard own : Bool) → (here ≡ true → own ≡ false) → (heard && own) ≡ ((here || heard) && own)
not-marked true heard own is = ap (λ b. heard && b) (is refl) ∙ none heard ∙ sym (is refl)
  where
    none : (b : Bool) → (b && false) ≡ false
    none b = grind arith
not-marked false heard own is = refl

module _ (entries : List Placed) (id : ℕ) (low : 0x100 ≤ id) where
  abbrev own : ℕ → Bool
  own slot = is_own_slot entries (first_identifier + slot)

  own-here : (b : Bool) → is_own_slot entries id ≡ b → (slot : ℕ) → (slot == (id - first_identifier)) ≡ true → own slot ≡ b
  own-here b is slot here = grind (arith, eqb-true)

  marked-set : (heard : ℕ) (p : ℕ → Bool) → ((slot : ℕ) → slot < most_slots → p slot ≡ (((slot == (id - first_identifier)) || has_bit heard slot) && own slot))
      → set_of most_slots p ≡ set_of most_slots (λ slot. has_bit (set_of most_slots (λ s. (s == (id - first_identifier)) || has_bit heard s)) slot && own slot)
  marked-set heard p same = grind (arith, set_of-same, has_bit-set_of, lt-ltb)

  -- a slot of the node's own is marked
  marks-own : is_own_slot entries id ≡ true → (opened : Opened)
      → with_heard (id - first_identifier) (own_opened entries opened) ≡ own_opened entries (with_heard (id - first_identifier) opened)
  marks-own is opened =
      let heard = opened.heard in
      ap (λ n. record opened { heard = n })
      (marked-set heard (λ slot. (slot == (id - first_identifier)) || has_bit (set_of most_slots (λ s. has_bit heard s && own s)) slot)
      (λ slot within. grind (arith, has_bit-set_of, lt-ltb, own-here)))

  -- a slot of another node is not
  marks-other : is_own_slot entries id ≡ false → (opened : Opened)
      → own_opened entries opened ≡ own_opened entries (with_heard (id - first_identifier) opened)
  marks-other is opened =
      let heard = opened.heard in
      ap (λ n. record opened { heard = n })
      (marked-set heard (λ slot. has_bit heard slot && own slot)
      (λ slot within. not-marked (slot == (id - first_identifier)) (has_bit heard slot) (own slot) (own-here false is slot)))

  marks-own-some : is_own_slot entries id ≡ true → (opened : Option Opened)
      → option_map (with_heard (id - first_identifier)) (option_map (own_opened entries) opened) ≡ option_map (own_opened entries) (option_map (with_heard (id - first_identifier)) opened)
  marks-own-some is opened = grind (arith, marks-own)

  marks-other-some : is_own_slot entries id ≡ false → (opened : Option Opened)
      → option_map (own_opened entries) opened ≡ option_map (own_opened entries) (option_map (with_heard (id - first_identifier)) opened)
  marks-other-some is opened = grind (arith, marks-other)

-- the part of a node, whatever cycle is open for it
abbrev pub part_with : List Owner → List Placed → ℕ → NodeState → Option Opened → NodeState
part_with owners placed number joint opened = record (part_of owners placed joint number) { opened = opened }

-- One frame

entries_kept : (node : NodeState) (sent : TimedFrame) → (after_hearing node sent).entries ≡ node.entries
entries_kept node sent = grind (arith, kept_by)

pub entries_kept_all : (sent : List TimedFrame) (node : NodeState) → (fold after_hearing node sent).entries ≡ node.entries
entries_kept_all [] node = refl
entries_kept_all (one ∷ later) node = entries_kept_all later (after_hearing node one) ∙ entries_kept node one

module _ (taken : (id : ℕ) (mail : List Mail) (other : ℕ)
    → unsent_of (without_first id mail) other ≡ cond (other == id) (drop 1 (unsent_of mail id)) (unsent_of mail other))
    (owners : List Owner) (placed : List Placed) (number : ℕ) (range : All IsInRange placed) (above : All (λ id. 0x200 ≤ id) (identifiers_of number owners)) where
  abbrev ids : List ℕ
  ids = identifiers_of number owners

  abbrev entries : List Placed
  entries = entries_of number placed

  abbrev with_open : NodeState → Option Opened → NodeState
  with_open = part_with owners placed number

  abbrev part : NodeState → NodeState
  part joint = part_of owners placed joint number

  module _ (frame : DataFrame) where
    abbrev id : ℕ
    id = frame.identifier

    abbrev by_cases : Bool → Bool → Bool → NodeState → NodeState
    by_cases opens notes marks node =
        cond opens (after_opening node frame) (cond notes (after_noting node frame) (cond marks (after_slot node (id - first_identifier)) (after_request node id)))

    -- besides the cycle that is open
    loose : (opens notes mine all : Bool) (joint : NodeState) (opened : Option Opened)
        → (mine ≡ true → all ≡ true) → (all ≡ true → (0x100 ≤ id) × (id < 0x160))
        → (now : Option Opened) × (by_cases opens notes mine (with_open joint opened) ≡ with_open (by_cases opens notes all joint) now)
    loose true notes mine all joint opened own is = (Some (opened_by joint.next (opening_trigger joint frame)), refl)
    loose false true mine all joint opened own is = (opened, refl)
    loose false false true true joint opened own is = (option_map (with_heard (id - first_identifier)) opened, refl)
    loose false false true false joint opened own is = absurd (false≢true (own refl))
    loose false false false true joint opened own is =
        (opened, ap (λ mail. record (with_open joint opened) { mail = mail }) (sym (taken-none ids id joint.mail (omega (arith, (is refl).1)) above)))
    loose false false false false joint opened own is =
        (opened, ap (λ mail. record (with_open joint opened) { mail = mail }) (sym (taken-of taken ids id joint.mail)))

    strict : (opens notes mine all : Bool) (joint : NodeState) → is_own_slot entries id ≡ mine
        → (mine ≡ true → all ≡ true) → (all ≡ true → (0x100 ≤ id) × (id < 0x160))
        → by_cases opens notes mine (part joint) ≡ part (by_cases opens notes all joint)
    strict true notes mine all joint same own is = grind (arith, own-opening)
    strict false true mine all joint same own is = refl
    strict false false true true joint same own is = grind (arith, marks-own-some)
    strict false false true false joint same own is = absurd (false≢true (own refl))
    strict false false false true joint same own is = grind (arith, taken-none, marks-other-some)
    strict false false false false joint same own is =
        ap (λ mail. record (part joint) { mail = mail }) (sym (taken-of taken ids id joint.mail))

  -- a slot of the part is one of the joint node's
  own-all : (joint : NodeState) (id : ℕ) → joint.entries ≡ joint_entries placed → is_own_slot entries id ≡ true → is_own_slot joint.entries id ≡ true
  own-all joint id same own = ap (λ es. is_own_slot es id) same ∙ slots-joint placed id ∙ own-of_all number id placed own

  own-low : (joint : NodeState) (id : ℕ) → joint.entries ≡ joint_entries placed → is_own_slot joint.entries id ≡ true → (0x100 ≤ id) × (id < 0x160)
  own-low joint id same own = own-id placed id range (sym (slots-joint placed id) ∙ ap (λ es. is_own_slot es id) (sym same) ∙ own)

  loose-hears : (joint : NodeState) (opened : Option Opened) (sent : TimedFrame) → joint.entries ≡ joint_entries placed
      → (now : Option Opened) × (after_hearing (with_open joint opened) sent ≡ with_open (after_hearing joint sent) now)
  loose-hears joint opened sent same =
      let counting : NodeState = record joint { frames = counted joint.frames } in
      let id = sent.frame.identifier in
      loose sent.frame (id == opening_identifier joint.layout.slots) (nat_lt id (opening_identifier joint.layout.slots)) (is_own_slot entries id) (is_own_slot joint.entries id) counting opened
      (own-all joint id same) (own-low joint id same)

  pub part-hears : (joint : NodeState) (sent : TimedFrame) → joint.entries ≡ joint_entries placed
      → after_hearing (part joint) sent ≡ part (after_hearing joint sent)
  part-hears joint sent same =
      let counting : NodeState = record joint { frames = counted joint.frames } in
      let id = sent.frame.identifier in
      strict sent.frame (id == opening_identifier joint.layout.slots) (nat_lt id (opening_identifier joint.layout.slots)) (is_own_slot entries id) (is_own_slot joint.entries id) counting refl
      (own-all joint id same) (own-low joint id same)

  loose-all : (sent : List TimedFrame) (joint : NodeState) (opened : Option Opened) → joint.entries ≡ joint_entries placed
      → (now : Option Opened) × (fold after_hearing (with_open joint opened) sent ≡ with_open (fold after_hearing joint sent) now)
  loose-all [] joint opened same = (opened, refl)
  loose-all (one ∷ later) joint opened same =
      let first = loose-hears joint opened one same in
      let rest = loose-all later (after_hearing joint one) first.0 (entries_kept joint one ∙ same) in
      (rest.0, ap (λ node. fold after_hearing node later) first.1 ∙ rest.1)

  strict-all : (sent : List TimedFrame) (joint : NodeState) → joint.entries ≡ joint_entries placed
      → fold after_hearing (part joint) sent ≡ part (fold after_hearing joint sent)
  strict-all [] joint same = refl
  strict-all (one ∷ later) joint same =
      ap (λ node. fold after_hearing node later) (part-hears joint one same) ∙ strict-all later (after_hearing joint one) (entries_kept joint one ∙ same)

  -- behind frames that open a cycle alike, the part is that of the joint node, whatever cycle was open for it
  pub part-behind : (sent later : List TimedFrame) (joint : NodeState) (opened : Option Opened) (cycle width mask : ℕ) → joint.entries ≡ joint_entries placed
      → (fold after_hearing (with_open joint opened) sent).opened ≡ Some (record { cycle = cycle; width = width; mask = mask; heard = 0 })
      → (fold after_hearing joint sent).opened ≡ Some (record { cycle = cycle; width = width; mask = mask; heard = 0 })
      → fold after_hearing (with_open joint opened) (sent ++ later) ≡ part (fold after_hearing joint (sent ++ later))
  part-behind sent later joint opened cycle width mask same mine all =
      let front = loose-all sent joint opened same in
      let behind = fold after_hearing joint sent in
      let now : front.0 ≡ option_map (own_opened entries) behind.opened =
      ap (λ node. node.opened) (sym front.1) ∙ mine ∙ ap (λ o. Some o) (sym (own-fresh entries cycle width mask)) ∙ ap (option_map (own_opened entries)) (sym all) in
      grind (arith, fold-append, strict-all, entries_kept_all)
