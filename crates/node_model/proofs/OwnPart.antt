-- What a node in an opened cycle offers is the least of its own part of what is offered on the bus.
use Rattle.std.proofs.Common.{◌≡◌, ℕ, ◌+◌, ◌/◌, ◌<◌, ◌≤◌, Bool, true, false, ◌==◌, eqb, leb, Option, Some, None, List, [], ◌∷◌, map, Contains, inl, inr, refl, sym, ap, ◌∙◌, subst, arith, MatchOption, option_map, div-mul-le_self}
use Rattle.std.specs.List.{list_any, slice_get}
use Rattle.std.specs.Option.{is_some}
use Rattle.std.proofs.lemmas.Bool.{cases_lt, both_ways, eq-eqb, eqb-true, leb-true, le-leb, lt-leb, and_parts, and_from, not-true, not_from_false, false_from_ne_true, cond-true, cond-false}
use Rattle.std.proofs.lemmas.Option.{slice_get_within, get_or_from_slice_get}
use Rattle.std.proofs.lemmas.List.Elements.{All-contains, All-drop, All-map, filter_passes}
use Rattle.std.proofs.lemmas.List.Folds.{list_any_none, list_any_at, list_any-from_Any}
use Rattle.profile.specs.Limits.{first_identifier}
use Rattle.can_frame.specs.DataFrame.{DataFrame}
use Rattle.can_frame.specs.declared.data_frame.TimedFrame.{TimedFrame}
use Rattle.cycle_layout.specs.Layout.{CycleLayout, IsLayout}
use Rattle.requirement_table.specs.declared.entries.Placed.{Placed}
use Rattle.bit_sets.specs.Sets.{has_bit, most_slots}
use Rattle.requirement_table.specs.Instance.{Instance}
use Rattle.requirement_table.specs.Table.{IsWellPlaced, instance_in}
use Rattle.async_window.specs.declared.request.Owner.{Owner}
use Rattle.async_window.specs.declared.request.Request.{Request}
use Rattle.async_window.specs.Waiting.{MayStart, frames_with, requests_of, unsent_after}
use Rattle.async_window.specs.Mailbox.{IsLeastWith, IsMail, Mail, OffersIdentifier, mail_after, mail_offer, unsent_of}
use Rattle.async_window.proofs.Shared.{Offers-among, Offers-least, unsent_of-among}
use Rattle.requirement_table.specs.Opening.{Opening, width_of}
use Rattle.trigger_codec.specs.Heard.{Noted}
use Rattle.node_model.specs.Opening.{window_start}
use Rattle.node_model.specs.Offered.{IsUnsent}
use Rattle.bit_sets.specs.Least.{least_where}
use Rattle.node_model.specs.Node.{IsNode, NodeState, entries_of, identifiers_of, is_due, node_bytes, node_frame, node_offer}
use Rattle.node_model.specs.Own.{OffersLeastOwn, OffersOwn, StandsIn, was_sent}
use Rattle.node_model.proofs.OwnEntries.{instance-of_all, instance-of_own, sent_from}
use Rattle.bit_sets.proofs.Shared.{IsLeastBelow, least_where-least}
use Rattle.node_model.proofs.Standing.{standing, opened_for, standing_in-is}

-- some frames, of which one has the least identifier
abbrev IsLeastFrame : (DataFrame → Type 0) → (ℕ → DataFrame) → Option ℕ → Type 0
IsLeastFrame Own frame_of found =
    MatchOption found ((frame : DataFrame) → Own frame → ⊥) (λ id. Own (frame_of id) × ((frame : DataFrame) → Own frame → id ≤ frame.identifier))

-- the slots with a property have these frames
least_slot-frame : (Own : DataFrame → Type 0) (frame_of : ℕ → DataFrame) (n : ℕ) (p : ℕ → Bool) (found : Option ℕ)
    → ((slot : ℕ) → slot < n → p slot ≡ true → Own (frame_of (first_identifier + slot)))
    → ((frame : DataFrame) → Own frame → (slot : ℕ) × (slot < n) × (p slot ≡ true) × (frame.identifier ≡ first_identifier + slot))
    → IsLeastBelow n p found → IsLeastFrame Own frame_of (option_map (λ slot. first_identifier + slot) found)
least_slot-frame Own frame_of n p None to from none = λ frame own.
    let due = from frame own in both_ways (p due.0) (none due.0 due.1) due.2
least_slot-frame Own frame_of n p (Some least) to from is = grind (arith, cases_lt, both_ways)

-- the identifiers with a property have these frames
least_mail-frame : (Own : DataFrame → Type 0) (frame_of : ℕ → DataFrame) (Has : ℕ → Type 0) (found : Option ℕ)
    → ((id : ℕ) → Has id → Own (frame_of id)) → ((frame : DataFrame) → Own frame → Has frame.identifier)
    → IsLeastWith Has found → IsLeastFrame Own frame_of found
least_mail-frame Own frame_of Has found to from none = grind arith

pub value-of : {X : Type 0} (o : Option X) → is_some o ≡ true → (x : X) × (o ≡ Some x)
value-of o is = grind arith

module _ (layout : CycleLayout) (opening : Opening) (past : List TimedFrame) where
  unsent-from : (slot : ℕ) → was_sent layout opening past slot ≡ false → IsUnsent layout opening slot past
  unsent-from slot none = grind (arith, cases_lt, both_ways, list_any_at, leb, and_from, eq-eqb, le-leb)

  from-unsent : (slot : ℕ) → IsUnsent layout opening slot past → was_sent layout opening past slot ≡ false
  from-unsent slot unsent = grind (arith, list_any_none, leb, false_from_ne_true, and_parts, eqb, eqb-true, leb-true)

-- a slot of which the entries have an instance is one of theirs
slot-of_instance : (entries : List Placed) (slot c : ℕ) (i : Instance) → instance_in entries slot c ≡ Some i
    → list_any (λ p. p.entry.slot == slot) entries ≡ true
slot-of_instance entries slot c i is =
    let sent = sent_from entries slot c i is in
    list_any-from_Any (λ p. p.entry.slot == slot) entries (sent.0.0, i.placed, sent.0.1, sent.0.2, eq-eqb i.placed.entry.slot slot sent.1)

-- and those of a request's frame are the request's
bytes_of-request : (node : NodeState) (at id : ℕ) (request : Request) → 0x200 ≤ id → slice_get (unsent_of node.mail id) 0 ≡ Some request
    → node_bytes node at id ≡ request.frame.bytes
bytes_of-request node at id request above is = grind (arith, cond-true, leb, le-leb)

pub identifiers-after : (ids : List ℕ) (requests : List Request) (past : List TimedFrame) → map (λ box. box.identifier) (mail_after ids requests past) ≡ ids
identifiers-after [] requests past = refl
identifiers-after (id ∷ ids) requests past = ap (λ later. id ∷ later) (identifiers-after ids requests past)

-- an unsent request of an identifier has it
first-identifier : (requests : List Request) (past : List TimedFrame) (id : ℕ) (request : Request)
    → slice_get (unsent_after requests past id) 0 ≡ Some request → request.frame.identifier ≡ id
first-identifier requests past id request is =
    let all = All-drop (λ r. eqb r.frame.identifier id ≡ true) (frames_with past id) (requests_of requests id)
    (filter_passes (λ r. eqb r.frame.identifier id) requests) in
    grind (arith, slice_get_within, get_or_from_slice_get, eqb-true, eqb)

same_frame : (frame : DataFrame) (id : ℕ) (bytes : List ℕ) → id ≡ frame.identifier → bytes ≡ frame.bytes → record { identifier = id; bytes = bytes } ≡ frame
same_frame frame id bytes same also = grind arith

module _ (layout : CycleLayout) (owners : List Owner) (requests : List Request) (opening : Opening) (past : List TimedFrame)
    (at number frames heard : ℕ) (noted : Noted) (positive : 0 < layout.cycle) (well : IsWellPlaced opening.placed) (time : at / layout.cycle ≡ opening.cycle)
    (marked : (slot : ℕ) → slot < most_slots → list_any (λ p. p.entry.slot == slot) (entries_of number opening.placed) ≡ true
    → has_bit heard slot ≡ was_sent layout opening past slot) where
  abbrev node : NodeState
  node = standing layout owners requests opening.placed past (opening.cycle + 1) number (Some (opened_for opening heard)) frames noted

  abbrev Own : DataFrame → Type 0
  Own = OffersOwn number layout owners requests opening past at

  abbrev entries : List Placed
  entries = entries_of number opening.placed

  abbrev ids : List ℕ
  ids = identifiers_of number owners

  abbrev mail : List Mail
  mail = mail_after ids requests past

  -- in the synchronous window
  due-offers : window_start layout opening ≤ at → (slot : ℕ) → slot < most_slots → is_due entries (opened_for opening heard) slot ≡ true
      → Own (node_frame node at (first_identifier + slot))
  due-offers late slot within due =
      grind (arith, and_parts, value-of, instance-of_all, slot-of_instance, div-mul-le_self, unsent-from, not-true, option_map)

  offers-due : window_start layout opening ≤ at → (frame : DataFrame) → Own frame
      → (slot : ℕ) × (slot < most_slots) × (is_due entries (opened_for opening heard) slot ≡ true) × (frame.identifier ≡ first_identifier + slot)
  offers-due late frame h1 = grind (arith, instance-of_own, slot-of_instance, and_from, not_from_false, from-unsent)

  offers-late : window_start layout opening ≤ at → OffersLeastOwn layout owners requests opening past at node
  offers-late late =
      let value : node_offer node at ≡ option_map (λ slot. first_identifier + slot) (least_where most_slots (is_due entries (opened_for opening heard)))
      = cond-true (eqb (at / layout.cycle) opening.cycle) _ _ (eq-eqb _ _ time) ∙ cond-true (leb (window_start layout opening) at) _ _ (le-leb _ _ late) in
      subst (IsLeastFrame Own (node_frame node at)) (sym value)
      (grind (arith, least_slot-frame, opened_for, due-offers, offers-due, least_where-least))

  -- before it
  module _ (known : IsMail mail) where
    among_mail : (id : ℕ) → OffersIdentifier layout (width_of opening) mail at id → Contains (map (λ box. box.identifier) mail) id
    among_mail = Offers-among layout (width_of opening) at mail

    unsent_among : (id : ℕ) → Contains ids id → unsent_of mail id ≡ unsent_after requests past id
    unsent_among = unsent_of-among ids requests past

    may_start-same : (c d : ℕ) (one other : List Request) (request : Request) → c ≡ d → one ≡ other
        → MayStart layout c (width_of opening) one at request → MayStart layout d (width_of opening) other at request
    may_start-same c d one other request same also may = grind arith

    mail-offers : (id : ℕ) → OffersIdentifier layout (width_of opening) mail at id → Own (node_frame node at id)
    mail-offers id offers =
        let among : Contains ids id = subst (λ all. Contains all id) (identifiers-after ids requests past) (among_mail id offers) in
        let above : 0x200 ≤ id = All-contains (λ n. 0x200 ≤ n) (map (λ box. box.identifier) mail) id (All-map (λ n. 0x200 ≤ n) (λ box. box.identifier) mail known.least) (among_mail id offers) in
        let unsent = unsent_among id among in
        let first : slice_get (unsent_after requests past id) 0 ≡ Some offers.0 = ap (λ all. slice_get all 0) (sym unsent) ∙ offers.1.waiting.first in
        inl (
          record {
            request = offers.0;
            may_start = may_start-same (at / layout.cycle) opening.cycle (unsent_of mail id) (unsent_after requests past id) offers.0 time unsent offers.1;
            its_frame = same_frame offers.0.frame id (node_bytes node at id) (sym (first-identifier requests past id offers.0 first))
                (bytes_of-request node at id offers.0 above offers.1.waiting.first);
          },
          among,
        )

    offers-mail : at < window_start layout opening → (frame : DataFrame) → Own frame → OffersIdentifier layout (width_of opening) mail at frame.identifier
    offers-mail early frame h1 = grind (arith, may_start-same, unsent_among)

    offers-early : IsLeastWith (OffersIdentifier layout (width_of opening) mail at) (mail_offer layout (width_of opening) mail at) → at < window_start layout opening
        → OffersLeastOwn layout owners requests opening past at node
    offers-early least early =
        let value : node_offer node at ≡ mail_offer layout (width_of opening) mail at
        = cond-true (eqb (at / layout.cycle) opening.cycle) _ _ (eq-eqb _ _ time) ∙ cond-false (leb (window_start layout opening) at) _ _ (lt-leb _ _ early) in
        subst (IsLeastFrame Own (node_frame node at)) (sym value)
        (grind (arith, least_mail-frame, mail-offers, offers-mail))

    pub offers-least : IsLeastWith (OffersIdentifier layout (width_of opening) mail at) (mail_offer layout (width_of opening) mail at)
        → OffersLeastOwn layout owners requests opening past at node
    offers-least least = elim (cases_lt at (window_start layout opening)) [ inl early ↦ offers-early least early | inr late ↦ offers-late late ]

pub offers_own_part : (layout : CycleLayout) (owners : List Owner) (requests : List Request) (opening : Opening) (past : List TimedFrame) (at : ℕ) (node : NodeState)
    → IsNode node → IsWellPlaced opening.placed → StandsIn layout owners requests opening past node → at / layout.cycle ≡ opening.cycle
    → OffersLeastOwn layout owners requests opening past at node
offers_own_part layout owners requests opening past at node is_node well stands time =
    let mail : List Mail = mail_after (identifiers_of node.number owners) requests past in
    let known : IsMail mail = subst IsMail stands.stands.own_mail is_node.mail in
    let its_layout : IsLayout layout = subst IsLayout stands.stands.same_layout is_node.layout in
    subst (λ (n : NodeState). OffersLeastOwn layout owners requests opening past at n)
    (sym (standing_in-is layout owners requests opening past node stands))
    (offers-least layout owners requests opening past at node.number node.frames stands.opened.heard node.noted (omega arith) well time
    (λ slot within own. stands.is_open.heard slot within (ap (list_any (λ p. p.entry.slot == slot)) stands.stands.own_entries ∙ own))
    known (Offers-least layout (width_of opening) at mail known))
