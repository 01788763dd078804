-- How a node goes on when it hears the frames of a cycle.
use Rattle.std.proofs.Common.{◌≡◌, ℕ, ◌+◌, ◌-◌, ◌^◌, ◌<◌, ◌≤◌, Bool, true, false, ◌&&◌, ◌||◌, ◌==◌, eqb, leb, Some, List, [], ◌∷◌, ◌++◌, filter, map, All, sym, ap, ◌∙◌, subst, arith}
use Rattle.std.proofs.lemmas.Grind.{common_steps}
use Rattle.std.specs.Prelude.{fold}
use Rattle.std.specs.List.{list_any}
use Rattle.std.proofs.lemmas.Bool.{eq-eqb, ne_eqb, eqb-true, le-leb, lt-leb, lt-ltb, and_left, and_right, cond-true, cond-false}
use Rattle.std.proofs.lemmas.Bool.Decides.{eqb_tells}
use Rattle.std.proofs.lemmas.List.{append-nil, append_assoc}
use Rattle.std.proofs.lemmas.List.Elements.{All-contains, All-filter, All-head, All-map, All-tail}
use Rattle.std.proofs.lemmas.List.Folds.{list_any-append, list_any_none, Any-from_list_any, map_fixed}
use Rattle.profile.specs.Limits.{first_identifier}
use Rattle.can_frame.specs.declared.data_frame.TimedFrame.{TimedFrame}
use Rattle.cycle_layout.specs.Layout.{CycleLayout, IsLayout}
use Rattle.requirement_table.specs.declared.entries.Placed.{Placed}
use Rattle.bit_sets.specs.Sets.{has_bit, set_of, most_slots}
use Rattle.requirement_table.specs.Table.{IsInRange, IsWellPlaced}
use Rattle.bit_sets.proofs.Shared.{has_bit-set_of, has_bit-none}
use Rattle.trigger_codec.specs.Heard.{Noted}
use Rattle.trigger_codec.specs.Bytes.{triggers_with}
use Rattle.async_window.specs.declared.request.Owner.{Owner}
use Rattle.async_window.specs.declared.request.Request.{Request}
use Rattle.async_window.specs.Mailbox.{Mail, mail_after, without_first}
use Rattle.async_window.specs.Waiting.{unsent_after}
use Rattle.async_window.proofs.Shared.{mail_after-next}
use Rattle.requirement_table.specs.Opening.{Opening, width_of}
use Rattle.node_model.specs.Opening.{start_of}
use Rattle.node_model.specs.Node.{NodeState, after_hearing, counted, entries_of, identifiers_of, is_own_slot}
use Rattle.async_window.specs.Owners.{AreOwners}
use Rattle.node_model.specs.Own.{StandsIn, StandsOnBus, was_sent}
use Rattle.node_model.specs.Offered.{trigger_frames}
use Rattle.trigger_kind.specs.Kind.{greatest_trigger}
use Rattle.node_model.proofs.OtherFrames.{other-frame}
use Rattle.node_model.proofs.Triggers.{IsOfTrigger, opened_with, opening_done, opens-next, trigger-identifiers}
use Rattle.node_model.proofs.OwnEntries.{entries_of-well_placed}
use Rattle.node_model.proofs.Standing.{standing, opened_for, standing_in-is}

-- an identifier that is below the asynchronous ones takes away no request
pub without_first-none : (id : ℕ) (mail : List Mail) → id < 0x200 → All (λ box. 0x200 ≤ box.identifier) mail → without_first id mail ≡ mail
without_first-none id mail below above = grind (arith, above, map_fixed, cond-false, eqb, ne_eqb)

-- the mail of a node is that of asynchronous identifiers
pub mail_after-least : (number : ℕ) (owners : List Owner) (requests : List Request) (past : List TimedFrame) → AreOwners owners
    → All (λ box. 0x200 ≤ box.identifier) (mail_after (identifiers_of number owners) requests past)
mail_after-least number owners requests past are =
    All-map (λ box. 0x200 ≤ box.identifier) (λ id. record { identifier = id; unsent = unsent_after requests past id }) (identifiers_of number owners)
    (All-map (λ id. 0x200 ≤ id) (λ owner. owner.id) (filter (λ owner. owner.node == number) owners)
    (All-filter (λ owner. owner.node == number) (λ owner. 0x200 ≤ owner.id) owners are.least))

turn : (is begun was : Bool) → begun ≡ true → (is || was) ≡ (was || ((is && begun) || false))
turn is begun was e = grind arith

kept : (is begun was : Bool) → is ≡ false → was ≡ (was || ((is && begun) || false))
kept is begun was e = grind arith

module _ (layout : CycleLayout) (owners : List Owner) (requests : List Request) (opening : Opening) where
  abbrev stands_marked : ℕ → List TimedFrame → ℕ → Type 0
  stands_marked number past heard = (slot : ℕ) → slot < most_slots → list_any (λ p. p.entry.slot == slot) (entries_of number opening.placed) ≡ true
      → has_bit heard slot ≡ was_sent layout opening past slot

  abbrev in_cycle : ℕ → Noted → List TimedFrame → ℕ → ℕ → NodeState
  in_cycle number noted past heard frames =
      standing layout owners requests opening.placed past (opening.cycle + 1) number (Some (opened_for opening heard)) frames noted

  abbrev is_of_slot : ℕ → TimedFrame → Bool
  is_of_slot slot sent = (sent.frame.identifier == first_identifier + slot) && leb (start_of layout opening) sent.start

  was_sent-next : (past : List TimedFrame) (sent : TimedFrame) (slot : ℕ)
      → was_sent layout opening (past ++ sent ∷ []) slot ≡ (was_sent layout opening past slot || (is_of_slot slot sent || false))
  was_sent-next past sent slot = list_any-append (is_of_slot slot) past (sent ∷ [])

  -- after the trigger frames no slot of the cycle was sent
  none_sent : (past sent : List TimedFrame) (slot : ℕ) → All (λ earlier. earlier.start < start_of layout opening) past
      → All IsOfTrigger sent → was_sent layout opening (past ++ sent) slot ≡ false
  none_sent past sent slot before triggers = grind (arith, common_steps, list_any_none, and_right, eqb, lt-leb, and_left, leb, ne_eqb)

  same_mail : (ids : List ℕ) (past : List TimedFrame) (sent : TimedFrame)
      → All (λ box. 0x200 ≤ box.identifier) (mail_after ids requests past) → sent.frame.identifier < 0x200
      → mail_after ids requests past ≡ mail_after ids requests (past ++ sent ∷ [])
  same_mail ids past sent above below = grind (arith, above, mail_after-next, without_first-none)

  -- trigger frames take away no request
  same_mail-all : (number : ℕ) → AreOwners owners
      → (sent past : List TimedFrame) → All IsOfTrigger sent
      → mail_after (identifiers_of number owners) requests past ≡ mail_after (identifiers_of number owners) requests (past ++ sent)
  same_mail-all number are [] past triggers = ap (mail_after (identifiers_of number owners) requests) (sym (append-nil past))
  same_mail-all number are (one ∷ rest) past triggers =
      let below = All-head IsOfTrigger one rest triggers in
      same_mail (identifiers_of number owners) past one (mail_after-least number owners requests past are) (omega (arith, below))
      ∙ same_mail-all number are rest (past ++ one ∷ []) (All-tail IsOfTrigger one rest triggers)
      ∙ ap (mail_after (identifiers_of number owners) requests) (append_assoc past (one ∷ []) rest)

  module _ (past : List TimedFrame) (sent : TimedFrame) (number frames : ℕ) (noted : Noted) (are : AreOwners owners) where
    abbrev mail : List Mail
    mail = mail_after (identifiers_of number owners) requests past

    above : All (λ box. 0x200 ≤ box.identifier) mail
    above = mail_after-least number owners requests past are

    -- another frame
    module _ (heard : ℕ) (well : IsWellPlaced opening.placed) (other : greatest_trigger < sent.frame.identifier) (begun : start_of layout opening ≤ sent.start)
        (marked : stands_marked number past heard) where
      abbrev open_node : NodeState
      open_node = in_cycle number noted past heard frames

      abbrev entries : List Placed
      entries = entries_of number opening.placed

      abbrev id : ℕ
      id = sent.frame.identifier

      -- a frame of a slot in which the node has an entry
      module _ (own : is_own_slot entries id ≡ true) where
        slot_of : (slot : ℕ) × (slot < most_slots) × (first_identifier + slot ≡ id)
        slot_of =
            let any = Any-from_list_any (λ p. first_identifier + p.entry.slot == id) entries own in
            let range : IsInRange any.1 = All-contains IsInRange entries any.1 (entries_of-well_placed number opening.placed well).in_range (any.0, any.2, any.3) in
            (any.1.entry.slot, range.entry.slot, eqb-true _ _ any.4)

        abbrev more : ℕ
        more = set_of most_slots (λ s. (s == (id - first_identifier)) || has_bit heard s)

        hears_slot : after_hearing open_node sent ≡ in_cycle number noted (past ++ sent ∷ []) more (counted frames)
        hears_slot = grind (arith, other-frame, cond-true, same_mail, above, slot_of)

        same_test : (slot : ℕ) → eqb slot (id - first_identifier) ≡ eqb id (first_identifier + slot)
        same_test slot = grind (arith, slot_of, eqb_tells, eq-eqb, ne_eqb)

        marks_slot : stands_marked number (past ++ sent ∷ []) more
        marks_slot = grind (arith, has_bit-set_of, eqb, lt-ltb, same_test, turn, leb, le-leb, was_sent-next)

      -- a frame of none
      module _ (none : is_own_slot entries id ≡ false) where
        hears_none : after_hearing open_node sent ≡ in_cycle number noted (past ++ sent ∷ []) heard (counted frames)
        hears_none = grind (arith, other-frame, cond-false, mail_after-next)

        marks_none : stands_marked number (past ++ sent ∷ []) heard
        marks_none = grind (arith, kept, eqb, leb, ne_eqb, was_sent-next)

      pub stands_in-later : StandsIn layout owners requests opening (past ++ sent ∷ []) (after_hearing open_node sent)
      stands_in-later = grind (arith, hears_slot, marks_slot, hears_none, marks_none)

module _ (layout : CycleLayout) (owners : List Owner) (requests : List Request) (opening : Opening) (past sent : List TimedFrame) where
  stands-opened : (node : NodeState) (frames : ℕ) → AreOwners owners → All (λ earlier. earlier.start < start_of layout opening) past → All IsOfTrigger sent
      → StandsOnBus layout owners requests opening.placed past opening.cycle node
      → StandsIn layout owners requests opening (past ++ sent) (opening_done node (width_of opening) opening.mask frames)
  stands-opened node frames are before triggers stands = grind (arith, same_mail-all, opened_with, has_bit-none, none_sent)

  pub stands-trigger : (node : NodeState) → AreOwners owners → IsLayout layout → width_of opening ≤ layout.window → opening.mask < 2 ^ layout.slots
      → All (λ earlier. earlier.start < start_of layout opening) past → map (λ one. one.frame) sent ≡ trigger_frames layout opening
      → StandsOnBus layout owners requests opening.placed past opening.cycle node
      → StandsIn layout owners requests opening (past ++ sent) (fold after_hearing node sent)
  stands-trigger node are is small below before triggers stands =
      let same = sym stands.same_layout in
      let its : map (λ one. one.frame) sent ≡ triggers_with node.layout.slots node.next (width_of opening) opening.mask = grind arith in
      let opens = opens-next node (width_of opening) opening.mask (subst IsLayout same is) (subst (λ l. width_of opening ≤ l.window) same small)
      (subst (λ l. opening.mask < 2 ^ l.slots) same below) sent its in
      subst (λ (n : NodeState). StandsIn layout owners requests opening (past ++ sent) n) (sym opens.1)
      (stands-opened node opens.0 are before (trigger-identifiers layout.slots opening.cycle (width_of opening) opening.mask sent triggers) stands)

pub stands-later : (layout : CycleLayout) (owners : List Owner) (requests : List Request) (opening : Opening) (past : List TimedFrame)
    (sent : TimedFrame) (node : NodeState)
    → AreOwners owners → IsWellPlaced opening.placed → greatest_trigger < sent.frame.identifier → start_of layout opening ≤ sent.start
    → StandsIn layout owners requests opening past node
    → StandsIn layout owners requests opening (past ++ sent ∷ []) (after_hearing node sent)
stands-later layout owners requests opening past sent node are well other begun stands =
    subst (λ (n : NodeState). StandsIn layout owners requests opening (past ++ sent ∷ []) (after_hearing n sent))
    (sym (standing_in-is layout owners requests opening past node stands))
    (grind (arith, stands_in-later))
