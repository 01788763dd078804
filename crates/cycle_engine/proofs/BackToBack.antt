-- In a synchronous window the frames that the nodes are to send, in the order of their slots, are those that
-- arbitration decides.
use Rattle.std.proofs.Common.{◌≡◌, ◌≢◌, ℕ, zero, suc, ◌+◌, ◌-◌, ◌<◌, ◌≤◌, ◌&&◌, Bool, true, false, not, cond, List, [], ◌∷◌, ◌++◌, All, Contains, length, length-append, take, drop, get_or, Option, None, Some, inl, inr, refl, sym, ap, ◌∙◌, subst, arith}
use Rattle.std.proofs.lemmas.Grind.{common_steps}
use Rattle.std.specs.Prelude.{MatchOption, nat_lt, find}
use Rattle.std.specs.List.{cons_option, filter_map, range_with_len}
use Rattle.std.specs.Option.{option_map_or}
use Rattle.std.proofs.lemmas.Bool.{cases_Bool, cases_eq, cases_lt, cases_order, eq-eqb, ne_eqb, lt-ltb, le-ltb, cond-true, cond-false, false≢true}
use Rattle.std.proofs.lemmas.Option.{none-some, same_Some}
use Rattle.std.proofs.lemmas.List.Elements.{All-cons, All-contains, All-head, All-map, All-tail}
use Rattle.std.proofs.lemmas.List.Sums.{fold-append}
use Rattle.std.proofs.lemmas.List.{take_all}
use Rattle.profile.specs.Limits.{first_identifier}
use Rattle.can_frame.specs.DataFrame.{DataFrame}
use Rattle.can_frame.specs.Wire.{wire_length}
use Rattle.can_frame.specs.declared.data_frame.TimedFrame.{TimedFrame}
use Rattle.cycle_layout.specs.Layout.{CycleLayout}
use Rattle.bit_sets.specs.Sets.{most_slots}
use Rattle.bus_line.specs.Trace.{Follows}
use Rattle.bus_line.specs.Stations.{IsOffered, offers_of, told}
use Rattle.node_model.specs.Node.{IsNode, NodeState, after_hearing, node_frame, node_offer}
use Rattle.node_model.specs.Window.{IsInWindow, due_frame, is_due_slot}
use Rattle.node_model.proofs.Shared.{due-kept, frame-kept, frames-due, node-hearing, offers-due, stays-in_window}
use Rattle.cycle_engine.specs.Stations.{Stationed, all_hear, cycle_line, frame_by_nodes, offered_by_nodes, offers_this}
use Rattle.cycle_engine.specs.SyncWindow.{back_to_back, by_slots, due_by, due_frames, nodes_alone, sent_at}
use Rattle.trigger_kind.proofs.Shared.{above-opens_not}
use Rattle.cycle_engine.proofs.Lists.{Contains-from_filter_map, Contains-later, filter_map-none}

-- no slot below this one is due
abbrev pub IsDueFrom : ℕ → NodeState → Type 0
IsDueFrom k node = (slot : ℕ) → slot < k → is_due_slot node slot ≡ false

-- what is first due
due-cases : (node : NodeState) (later : List NodeState) (slot : ℕ) (b : Bool) (o : Option DataFrame) → is_due_slot node slot ≡ b
    → due_by (node ∷ later) slot ≡ o → cond b (Some (due_frame node slot)) (due_by later slot) ≡ o
due-cases node later slot b o is same = ap (λ c. cond c (Some (due_frame node slot)) (due_by later slot)) (sym is) ∙ same

due_by-none : (nodes : List NodeState) (slot : ℕ) → due_by nodes slot ≡ None → All (λ node. is_due_slot node slot ≡ false) nodes
due_by-none [] slot none = λ k d within. absurd (omega arith)
due_by-none (node ∷ later) slot none = elim (cases_Bool (is_due_slot node slot)) [
  | inl due ↦ absurd (none-some (due_frame node slot) (sym (due-cases node later slot true None due none)))
  | inr not_due ↦ All-cons (λ n. is_due_slot n slot ≡ false) node later not_due (due_by-none later slot (due-cases node later slot false None not_due none))
]

module _ (from until : ℕ) where
  -- a node in its window, of which no slot below `k` is due
  pub record IsAt (k : ℕ) (node : NodeState) : Type 0 where
    pub known : IsNode node
    pub in_window : IsInWindow from until node
    pub later : IsDueFrom k node

  offer-found : (node : NodeState) (k : ℕ) (o : Option ℕ)
      → MatchOption o ((slot : ℕ) → slot < most_slots → is_due_slot node slot ≡ false)
      (λ id. (slot : ℕ) × (slot < most_slots) × (id ≡ first_identifier + slot) × (is_due_slot node slot ≡ true)
      × ((other : ℕ) → other < slot → is_due_slot node other ≡ false))
      → IsDueFrom k node → k < most_slots → is_due_slot node k ≡ true → o ≡ Some (first_identifier + k)
  offer-found node k o nothing below within due = grind (arith, false≢true, cases_order)

  -- an identifier that is offered is that of a slot that is due
  offer-due : (node : NodeState) (o : Option ℕ) (id : ℕ)
      → MatchOption o ((slot : ℕ) → slot < most_slots → is_due_slot node slot ≡ false)
      (λ id. (slot : ℕ) × (slot < most_slots) × (id ≡ first_identifier + slot) × (is_due_slot node slot ≡ true)
      × ((other : ℕ) → other < slot → is_due_slot node other ≡ false))
      → o ≡ Some id → (slot : ℕ) × (slot < most_slots) × (id ≡ first_identifier + slot) × (is_due_slot node slot ≡ true)
  offer-due node o id nothing is = grind (arith, none-some, same_Some)

  offer-none : (node : NodeState) (o : Option ℕ)
      → MatchOption o ((slot : ℕ) → slot < most_slots → is_due_slot node slot ≡ false)
      (λ id. (slot : ℕ) × (slot < most_slots) × (id ≡ first_identifier + slot) × (is_due_slot node slot ≡ true)
      × ((other : ℕ) → other < slot → is_due_slot node other ≡ false))
      → ((slot : ℕ) → slot < most_slots → is_due_slot node slot ≡ false) → o ≡ None
  offer-none node o nothing none = grind (arith, false≢true)

  offers_none : (o : Option ℕ) (id : ℕ) → (o ≡ Some id → ⊥) → offers_this id o ≡ false
  offers_none o id never = grind (arith, ne_eqb)

  module _ (at k : ℕ) (begun : from ≤ at) (early : at < until) (within : k < most_slots) where
    offers-at : (node : NodeState) → IsAt k node → is_due_slot node k ≡ true → node_offer node at ≡ Some (first_identifier + k)
    offers-at node is due =
        offer-found node k (node_offer node at) (offers-due node from until at is.known is.in_window begun early) is.later within due

    -- the first node that has the slot due is the first that offers its identifier
    frame-first : (nodes : List NodeState) (frame : DataFrame) → All (IsAt k) nodes → due_by nodes k ≡ Some frame
        → (frame_by_nodes nodes at (first_identifier + k) ≡ frame) × Contains (offered_by_nodes nodes at) (first_identifier + k)
    frame-first [] frame all due = absurd (none-some frame due)
    frame-first (node ∷ later) frame all due = elim (cases_Bool (is_due_slot node k)) [
      | inl its ↦
          let is = All-head (IsAt k) node later all in
          let offered = offers-at node is its in
          let same : due_frame node k ≡ frame = same_Some (due_frame node k) frame (due-cases node later k true (Some frame) its due) in
          let first = ap (offers_this (first_identifier + k)) offered ∙ eq-eqb (first_identifier + k) (first_identifier + k) refl in (grind (arith, frames-due))
      | inr other ↦
          let is = All-head (IsAt k) node later all in
          let never : node_offer node at ≡ Some (first_identifier + k) → ⊥ = λ same.
          let its = offer-due node (node_offer node at) (first_identifier + k) (offers-due node from until at is.known is.in_window begun early) same in
          let slot : its.0 ≡ k = omega (arith, its.2) in
          false≢true (sym other ∙ ap (is_due_slot node) (sym slot) ∙ its.3) in
          let rest = frame-first later frame (All-tail (IsAt k) node later all) (due-cases node later k false (Some frame) other due) in
          let passes = offers_none (node_offer node at) (first_identifier + k) never in (grind (arith, common_steps, offered-later))
    ]
      where
        offered-later : (node : NodeState) (o : Option ℕ) (later : List NodeState) → Contains (offered_by_nodes later at) (first_identifier + k)
            → Contains (cons_option o (offered_by_nodes later at)) (first_identifier + k)
        offered-later node None later has = has
        offered-later node (Some own) later has = Contains-later own (offered_by_nodes later at) (first_identifier + k) has

    -- no lesser identifier is offered
    offers-more : (nodes : List NodeState) (id : ℕ) → All (IsAt k) nodes → Contains (offered_by_nodes nodes at) id → first_identifier + k ≤ id
    offers-more nodes id all has =
        let found = Contains-from_filter_map (λ n. node_offer n at) nodes id has in
        let is = All-contains (IsAt k) nodes found.0 all found.1 in
        let its = offer-due found.0 (node_offer found.0 at) id (offers-due found.0 from until at is.known is.in_window begun early) found.2 in
        grind (arith, cases_lt, false≢true)

  -- nothing is offered where no slot is due
  offers-nothing : (nodes : List NodeState) (at : ℕ) → from ≤ at → at < until → All (IsAt most_slots) nodes → offered_by_nodes nodes at ≡ []
  offers-nothing nodes at begun early all =
      filter_map-none (λ n. node_offer n at) nodes (λ k d within.
      let is = all k d within in
      let node = get_or nodes k d in
      offer-none node (node_offer node at) (offers-due node from until at is.known is.in_window begun early) is.later)

  -- nodes that heard the frame of a slot
  IsAt-heard : (k : ℕ) (sent : TimedFrame) (nodes : List NodeState) → sent.frame.identifier ≡ first_identifier + k → k < most_slots → All (IsAt k) nodes
      → All (IsAt (k + 1)) (all_hear nodes sent)
  IsAt-heard k sent nodes is within all = All-map (IsAt (k + 1)) (λ node. after_hearing node sent) nodes (λ j d inside.
      let node = get_or nodes j d in
      let was = all j d inside in
      record {
        known = node-hearing node sent (λ opens. absurd (above-opens_not node.layout.slots sent.frame.identifier (omega (arith, is)) opens)) was.known;
        in_window = stays-in_window node from until sent (omega (arith, is)) was.in_window;
        later = λ slot below. elim (cases_eq slot k) [
          | inl here ↦ due-kept node k slot sent was.known is within (omega (arith, here, within))
              ∙ ap (λ b. not b && is_due_slot node slot) (eq-eqb slot k here)
          | inr other ↦ due-kept node k slot sent was.known is within (omega (arith, below, within))
              ∙ ap (λ b. not b && is_due_slot node slot) (ne_eqb slot k other) ∙ was.later slot (omega (arith, below, other))
        ];
      })

  IsAt-next : (k : ℕ) (nodes : List NodeState) → due_by nodes k ≡ None → All (IsAt k) nodes → All (IsAt (k + 1)) nodes
  IsAt-next k nodes none all = grind (arith, due_by-none)

  -- what the nodes are to send of the other slots stays
  due_by-heard : (k : ℕ) (sent : TimedFrame) (slot : ℕ) (nodes : List NodeState) → sent.frame.identifier ≡ first_identifier + k → k < most_slots → slot < most_slots
      → slot ≢ k → All (IsAt k) nodes → due_by (all_hear nodes sent) slot ≡ due_by nodes slot
  due_by-heard k sent slot [] is within inside other all = refl
  due_by-heard k sent slot (node ∷ later) is within inside other all =
      let was = All-head (IsAt k) node later all in
      let due : is_due_slot (after_hearing node sent) slot ≡ is_due_slot node slot =
      due-kept node k slot sent was.known is within inside ∙ ap (λ b. not b && is_due_slot node slot) (ne_eqb slot k other) in
      ap (λ b. cond b (Some (due_frame (after_hearing node sent) slot)) (due_by (all_hear later sent) slot)) due
      ∙ ap (λ f. cond (is_due_slot node slot) (Some f) (due_by (all_hear later sent) slot)) (frame-kept node k slot sent was.known is within)
      ∙ ap (cond (is_due_slot node slot) (Some (due_frame node slot))) (due_by-heard k sent slot later is within inside other (All-tail (IsAt k) node later all))

-- the frames that nodes are to send of `n` slots from slot `k` on
abbrev pub due_from : List NodeState → ℕ → ℕ → List DataFrame
due_from nodes k n = filter_map (due_by nodes) (range_with_len k n)

due_from-same : (nodes others : List NodeState) (n k : ℕ) → ((slot : ℕ) → k ≤ slot → slot < k + n → due_by nodes slot ≡ due_by others slot)
    → due_from nodes k n ≡ due_from others k n
due_from-same nodes others zero k same = refl
due_from-same nodes others (suc n) k same =
    ap (λ o. cons_option o (due_from nodes (k + 1) n)) (same k (omega arith) (omega arith))
    ∙ ap (cons_option (due_by others k)) (due_from-same nodes others n (k + 1) (λ slot low high. same slot (omega arith) (omega arith)))

module _ (layout : CycleLayout) (from until : ℕ) (before : Stationed) where
  abbrev Decided : List TimedFrame → ℕ → List TimedFrame → Type 0
  Decided sofar at frames = Follows (offers_of cycle_line before) sofar at until frames

  -- what is decided behind any frames, where no slot below `k` is due any more
  abbrev Goes : ℕ → ℕ → Type 0
  Goes k n = (nodes : List NodeState) (sofar : List TimedFrame) (at : ℕ) → told cycle_line before sofar ≡ nodes_alone layout nodes
      → All (IsAt from until k) nodes → from ≤ at → Decided sofar at (back_to_back (due_from nodes k n) at until)

  one-sent : (n k : ℕ) → k + 1 + n ≡ most_slots → Goes (k + 1) n → (nodes : List NodeState) (sofar : List TimedFrame) (at : ℕ)
      → told cycle_line before sofar ≡ nodes_alone layout nodes → All (IsAt from until k) nodes → from ≤ at → at < until
      → (frame : DataFrame) → due_by nodes k ≡ Some frame
      → Decided sofar at (sent_at at frame ∷ back_to_back (due_from nodes (k + 1) n) (at + wire_length frame) until)
  one-sent n k sum goes nodes sofar at now all begun early frame due =
      let within : k < most_slots = omega (arith, sum) in
      let sent = sent_at at frame in
      let first = frame-first from until at k begun early within nodes frame all due in
      let identifier : frame.identifier ≡ first_identifier + k = ap (λ f. f.identifier) (sym first.0) ∙ identifier_of nodes at (first_identifier + k) in
      let next = all_hear nodes sent in
      let told_more : told cycle_line before (sofar ++ sent ∷ []) ≡ nodes_alone layout next =
      fold-append cycle_line.next before sofar (sent ∷ []) ∙ ap (λ s. cycle_line.next s sent) now in
      let rest = goes next (sofar ++ sent ∷ []) (at + wire_length frame) told_more (IsAt-heard from until k sent nodes identifier within all) (omega (arith, begun)) in
      let same : due_from next (k + 1) n ≡ due_from nodes (k + 1) n =
      due_from-same next nodes n (k + 1) (λ slot low high.
      due_by-heard from until k sent slot nodes identifier within (omega (arith, high, sum)) (λ here. omega (arith, here, low)) all) in (
        record {
          when_free = omega arith;
          within = early;
          first = λ t other low high _. omega (arith, low, high);
          least = record {
            offered = subst (λ s. IsOffered cycle_line s at frame) (sym now) (grind arith);
            least = λ other offered.
                let its = subst (λ s. IsOffered cycle_line s at other) now offered in
                omega (arith, identifier, offers-more from until at k begun early within nodes other.identifier all its.contends);
          };
          whole = refl;
        },
        subst (λ fs. Decided (sofar ++ sent ∷ []) (at + wire_length frame) (back_to_back fs (at + wire_length frame) until)) same rest,
      )
    where
      identifier-found : (at id : ℕ) (o : Option NodeState) → (option_map_or (λ node. node_frame node at id) o (record { identifier = id; bytes = [] })).identifier ≡ id
      identifier-found at id o = grind (arith, common_steps)

      identifier_of : (nodes : List NodeState) (at id : ℕ) → (frame_by_nodes nodes at id).identifier ≡ id
      identifier_of nodes at id = identifier-found at id (find (λ node. offers_this id (node_offer node at)) nodes)

  one-slot : (n k : ℕ) → k + 1 + n ≡ most_slots → Goes (k + 1) n → (nodes : List NodeState) (sofar : List TimedFrame) (at : ℕ)
      → told cycle_line before sofar ≡ nodes_alone layout nodes → All (IsAt from until k) nodes → from ≤ at
      → (o : Option DataFrame) → due_by nodes k ≡ o → Decided sofar at (back_to_back (cons_option o (due_from nodes (k + 1) n)) at until)
  one-slot n k sum goes nodes sofar at now all begun None due =
      goes nodes sofar at now (IsAt-next from until k nodes due all) begun
  one-slot n k sum goes nodes sofar at now all begun (Some frame) due = grind (arith, cases_lt, cond-true, lt-ltb, one-sent, cond-false, le-ltb)

  goes-on : (n k : ℕ) → k + n ≡ most_slots → Goes k n
  goes-on zero k sum nodes sofar at now all begun = λ t other low high offered.
      let its = subst (λ s. IsOffered cycle_line s t other) now offered in
      let here : k ≡ most_slots = omega (arith, sum) in
      let none = offers-nothing from until nodes t (omega (arith, begun, low)) high (subst (λ j. All (IsAt from until j) nodes) here all) in
      contains_none (offered_by_nodes nodes t) other.identifier none its.contends
    where
      contains_none : (ids : List ℕ) (id : ℕ) → ids ≡ [] → Contains ids id → ⊥
      contains_none ids id none h1 = grind arith
  goes-on (suc n) k sum nodes sofar at now all begun =
      one-slot n k (omega (arith, sum)) (goes-on n (k + 1) (omega (arith, sum))) nodes sofar at now all begun (due_by nodes k) refl

-- the frames that nodes are to send, one behind the other, are those that arbitration decides
pub Follows-due : (layout : CycleLayout) (from until : ℕ) (nodes : List NodeState)
    → All IsNode nodes → All (IsInWindow from until) nodes
    → Follows (offers_of cycle_line (nodes_alone layout nodes)) [] from until (back_to_back (due_frames nodes) from until)
unfolding by_slots
Follows-due layout from until nodes are in_window =
    goes-on layout from until (nodes_alone layout nodes) most_slots 0 refl nodes [] from refl
    (λ j d within. record { known = are j d within; in_window = in_window j d within; later = λ slot below. absurd (omega arith) }) (omega arith)

-- the identifiers of these frames are those of slots
abbrev IsSlotId : ℕ → Type 0
IsSlotId id = (first_identifier ≤ id) × (id < first_identifier + most_slots)

due_by-id : (nodes : List NodeState) (slot : ℕ) (frame : DataFrame) → due_by nodes slot ≡ Some frame → frame.identifier ≡ first_identifier + slot
due_by-id [] slot frame due = absurd (none-some frame due)
due_by-id (node ∷ later) slot frame due = elim (cases_Bool (is_due_slot node slot)) [
  | inl its ↦ ap (λ f. f.identifier) (sym (same_Some (due_frame node slot) frame (due-cases node later slot true (Some frame) its due)))
  | inr other ↦ due_by-id later slot frame (due-cases node later slot false (Some frame) other due)
]

one-id : (o : Option DataFrame) (k : ℕ) (fs : List DataFrame) → ((frame : DataFrame) → o ≡ Some frame → frame.identifier ≡ first_identifier + k) → k < most_slots
    → All (λ f. IsSlotId f.identifier) fs → All (λ f. IsSlotId f.identifier) (cons_option o fs)
one-id o k fs is within all = grind arith

due_from-ids : (nodes : List NodeState) (n k : ℕ) → k + n ≤ most_slots → All (λ f. IsSlotId f.identifier) (due_from nodes k n)
due_from-ids nodes zero k few = λ j d within. absurd (omega arith)
due_from-ids nodes (suc n) k few =
    one-id (due_by nodes k) k (due_from nodes (k + 1) n) (due_by-id nodes k) (omega (arith, few)) (due_from-ids nodes n (k + 1) (omega (arith, few)))

sent-ids : (fs : List DataFrame) (at until : ℕ) → All (λ f. IsSlotId f.identifier) fs → All (λ sent. IsSlotId sent.frame.identifier) (back_to_back fs at until)
sent-ids [] at until all = λ j d within. absurd (omega arith)
sent-ids (frame ∷ later) at until all = if-sent (nat_lt at until)
    (sent-ids later (at + wire_length frame) until (All-tail (λ f. IsSlotId f.identifier) frame later all))
  where
    if-sent : (b : Bool) → All (λ sent. IsSlotId sent.frame.identifier) (back_to_back later (at + wire_length frame) until)
        → All (λ sent. IsSlotId sent.frame.identifier) (cond b (sent_at at frame ∷ back_to_back later (at + wire_length frame) until) [])
    if-sent b rest = grind arith

pub due-ids : (nodes : List NodeState) (from until : ℕ)
    → All (λ sent. (first_identifier ≤ sent.frame.identifier) × (sent.frame.identifier < first_identifier + most_slots)) (back_to_back (due_frames nodes) from until)
unfolding by_slots
due-ids nodes from until = sent-ids (due_frames nodes) from until (due_from-ids nodes most_slots 0 (omega arith))

-- what stands behind a front, as a slice of the whole
pub behind-front : {X : Type 0} (front back all : List X) (n : ℕ) → all ≡ front ++ back → n ≡ length front → take (length all - n) (drop n all) ≡ back
behind-front {X = X} front back all n is long =
    ap (λ xs. take (length xs - n) (drop n xs)) is
    ∙ ap (λ k. take (length (front ++ back) - k) (drop k (front ++ back))) long
    ∙ ap (take (length (front ++ back) - length front)) (drop-front front)
    ∙ take_all (length (front ++ back) - length front) back (omega (arith, length-append front back))
  where
    drop-front : (xs : List X) → drop (length xs) (xs ++ back) ≡ back
    drop-front xs = grind (arith, common_steps)
