-- Frames of slots with other bytes, timed anew. Arbitration decides them where it decided the frames before, since in the
-- synchronous window nothing is newly offered: which slot is sent next is a matter of what was sent before alone.
use Rattle.std.proofs.Common.{◌≡◌, inl, inr, ℕ, ◌+◌, ◌<◌, ◌≤◌, true, List, [], ◌∷◌, ◌++◌, All, Contains, map, Option, Some, None, option_map, append_assoc, append-nil, refl, sym, subst, ◌∙◌, arith}
use Rattle.std.specs.Prelude.{◌↔◌}
use Rattle.std.proofs.Math.Nat.{add-mul}
use Rattle.std.proofs.Math.Seq.{drop-nil}
use Rattle.std.proofs.lemmas.Bool.{cases_lt, le-ltb, lt-ltb}
use Rattle.std.proofs.lemmas.List.Elements.{All-contains, All-head, All-pop, All-push, All-tail}
use Rattle.std.proofs.lemmas.Option.{none-some, slice_get_within}
use Rattle.std.specs.List.{slice_get}
use Rattle.profile.specs.Limits.{first_identifier}
use Rattle.can_frame.specs.DataFrame.{DataFrame}
use Rattle.can_frame.specs.Wire.{wire_length}
use Rattle.can_frame.specs.declared.data_frame.TimedFrame.{TimedFrame}
use Rattle.cycle_layout.specs.Layout.{CycleLayout, IsLayout, trigger_part}
use Rattle.requirement_table.specs.Instance.{Instance, bytes_of}
use Rattle.requirement_table.specs.Opening.{Opening, width_of}
use Rattle.bit_sets.specs.Sets.{has_bit, most_slots}
use Rattle.requirement_table.specs.Table.{instance_in}
use Rattle.trigger_kind.specs.Kind.{greatest_trigger}
use Rattle.trigger_codec.specs.Bytes.{triggers_with}
use Rattle.trigger_codec.proofs.Shared.{low_ids}
use Rattle.bus_line.specs.Trace.{Follows, IsLeastOffered, IsNext, NothingOffered, end_of}
use Rattle.node_model.specs.Opening.{end_of_cycle, start_of, window_start}
use Rattle.node_model.specs.Offered.{HasNotStarted, IsUnsent, OffersRequest, OffersSlot, OffersTrigger, bytes_sent}
use Rattle.cycle_engine.specs.Cycle.{FitsWindow}
use Rattle.cycle_engine.specs.Offered.{offered_in}
use Rattle.cycle_engine.specs.SyncWindow.{back_to_back, sent_at}
use Rattle.sporadic_poll.specs.Rides.{sent_anew}

-- a trigger frame has the identifier 0 or 1
pub low : (slots cycle l mask : ℕ) (frame : DataFrame) → Contains (triggers_with slots cycle l mask) frame → frame.identifier ≤ greatest_trigger
low slots cycle l mask frame has = All-contains (λ f. f.identifier ≤ greatest_trigger) (triggers_with slots cycle l mask) frame (low_ids slots cycle l mask) has

-- where there are no requests, none is offered
pub no_request : (layout : CycleLayout) (opening : Opening) (past : List TimedFrame) (at : ℕ) (frame : DataFrame) → OffersRequest layout [] opening past at frame → ⊥
no_request layout opening past at frame offers = grind (arith, slice_get_within, drop-nil)

-- a frame is offered with an identifier
pub record IsOfferedAs (layout : CycleLayout) (opening : Opening) (past : List TimedFrame) (at identifier : ℕ) : Type 0 where
  pub frame : DataFrame
  pub offered : offered_in bytes_of layout [] opening past at frame
  pub same : frame.identifier ≡ identifier

module _ (layout : CycleLayout) (opening : Opening) (sends : Instance → List ℕ) (known : IsLayout layout) (fits : FitsWindow layout opening) where
  -- frames were sent, and others with the same identifiers: in the cycle the same have not started
  abbrev pub AreAlike : List TimedFrame → List TimedFrame → Type 0
  AreAlike past others = (id : ℕ) → HasNotStarted layout opening id past ↔ HasNotStarted layout opening id others

  -- the synchronous window starts after the trigger part
  late : start_of layout opening + trigger_part layout ≤ window_start layout opening
  late = omega (arith, add-mul opening.cycle 1 layout.cycle, known.room, fits.width)

  -- one more frame each, with the same identifier, in the cycle
  alike-more : (past others : List TimedFrame) (one other : TimedFrame) → one.frame.identifier ≡ other.frame.identifier → start_of layout opening ≤ one.start
      → start_of layout opening ≤ other.start → AreAlike past others → AreAlike (past ++ one ∷ []) (others ++ other ∷ [])
  alike-more past others one other same one_late other_late alike id = (
    λ not_started.
        let parts = All-pop (λ sent. sent.frame.identifier ≡ id → sent.start < start_of layout opening) (past ++ one ∷ []) past (Some one) refl not_started in
        All-push (λ sent. sent.frame.identifier ≡ id → sent.start < start_of layout opening) others other ((alike id).0 parts.0)
        (λ is. absurd (omega (arith, one_late, parts.1 (same ∙ is)))),
    λ not_started.
        let parts = All-pop (λ sent. sent.frame.identifier ≡ id → sent.start < start_of layout opening) (others ++ other ∷ []) others (Some other) refl not_started in
        All-push (λ sent. sent.frame.identifier ≡ id → sent.start < start_of layout opening) past one ((alike id).1 parts.0)
        (λ is. absurd (omega (arith, other_late, parts.1 (sym same ∙ is)))),
  )

  -- frames that all started before the cycle
  pub alike-before : (past others : List TimedFrame) → All (λ sent. sent.start < start_of layout opening) past → All (λ sent. sent.start < start_of layout opening) others
      → AreAlike past others
  alike-before past others before also id = (λ _ k d within is. also k d within, λ _ k d within is. before k d within)

  -- the bytes that the slot's instance sends which may be sent in the cycle
  has_bytes : (slot : ℕ) (found : Option Instance) (bytes : List ℕ) → option_map sends found ≡ Some bytes → (number : List ℕ) × (option_map bytes_of found ≡ Some number)
  has_bytes slot None bytes is = absurd (none-some bytes is)
  has_bytes slot (Some i) bytes is = (bytes_of i, refl)

  -- a slot that is offered once some were sent is offered at any time of the window, with its identifier, once the others
  -- were
  slot_too : (past others : List TimedFrame) (at also : ℕ) (frame : DataFrame) (slot : ℕ) → AreAlike past others → OffersSlot sends layout opening others at frame slot
      → start_of layout opening ≤ also → window_start layout opening ≤ also → also < end_of_cycle layout opening → IsOfferedAs layout opening past also frame.identifier
  slot_too past others at also frame slot alike offers begun late_enough within =
      let bytes = has_bytes slot (instance_in opening.placed slot opening.cycle) frame.bytes offers.bytes in
      record {
        frame = record { identifier = frame.identifier; bytes = bytes.0 };
        offered = inr (inr (
          slot,
          record {
            begun = begun;
            late_enough = late_enough;
            within = within;
            known = offers.known;
            flagged = offers.flagged;
            unsent = (alike (first_identifier + slot)).1 offers.unsent;
            identifier = offers.identifier;
            bytes = bytes.1;
          },
        ));
        same = refl;
      }

  -- what is offered once some of them were sent is offered, with its identifier, once the others were
  offered_too : (past others : List TimedFrame) (at : ℕ) (frame : DataFrame) → AreAlike past others → offered_in sends layout [] opening others at frame
      → IsOfferedAs layout opening past at frame.identifier
  offered_too past others at frame alike (inl trigger) =
      record {
        frame = frame;
        offered = inl (record { begun = trigger.begun; within = trigger.within; among = trigger.among; unsent = (alike frame.identifier).1 trigger.unsent });
        same = refl;
      }
  offered_too past others at frame alike (inr (inl request)) = absurd (no_request layout opening others at frame request)
  offered_too past others at frame alike (inr (inr (slot, offers))) = slot_too past others at at frame slot alike offers offers.begun offers.late_enough offers.within

  -- so where nothing is offered once some were sent, nothing is once the others were
  nothing_too : (past others : List TimedFrame) (low high : ℕ) → AreAlike past others → NothingOffered (offered_in bytes_of layout [] opening) past low high
      → NothingOffered (offered_in sends layout [] opening) others low high
  nothing_too past others low high alike nothing at frame from until offers =
      let it = offered_too past others at frame alike offers in
      nothing at it.frame from until it.offered

  -- all flagged slots were sent
  abbrev pub AllSent : List TimedFrame → Type 0
  AllSent past = (slot : ℕ) → slot < most_slots → has_bit opening.mask slot ≡ true → IsUnsent layout opening slot past → ⊥

  -- in the window only slots are offered
  in_window : (past : List TimedFrame) (at : ℕ) (frame : DataFrame) → window_start layout opening ≤ at → offered_in sends layout [] opening past at frame
      → (slot : ℕ) × OffersSlot sends layout opening past at frame slot
  in_window past at frame from h1 = grind (arith, late, no_request)

  in_window_plain : (past : List TimedFrame) (at : ℕ) (frame : DataFrame) → window_start layout opening ≤ at → offered_in bytes_of layout [] opening past at frame
      → (slot : ℕ) × OffersSlot bytes_of layout opening past at frame slot
  in_window_plain past at frame from h1 = grind (arith, late, no_request)

  -- once all were sent nothing is offered in the window
  none_left : (past others : List TimedFrame) (low high : ℕ) → AreAlike past others → AllSent past → window_start layout opening ≤ low
      → NothingOffered (offered_in sends layout [] opening) others low high
  none_left past others low high alike all from at frame since until offers =
      let it = in_window others at frame (omega (arith, from, since)) offers in
      all it.0 it.1.known it.1.flagged ((alike (first_identifier + it.0)).1 it.1.unsent)

  -- a frame that is none of a slot is a trigger frame
  is_trigger : (past : List TimedFrame) (at : ℕ) (frame : DataFrame) → ((slot : ℕ) → slot < most_slots → frame.identifier ≡ first_identifier + slot → ⊥)
      → offered_in bytes_of layout [] opening past at frame → OffersTrigger layout opening past at frame
  is_trigger past at frame none (inl trigger) = trigger
  is_trigger past at frame none (inr (inl request)) = absurd (no_request layout opening past at frame request)
  is_trigger past at frame none (inr (inr (slot, offers))) = absurd (none slot offers.known offers.identifier)

  -- and one that is no trigger frame is sent in the window
  late_slot : (past : List TimedFrame) (at : ℕ) (frame : DataFrame) → greatest_trigger < frame.identifier → offered_in bytes_of layout [] opening past at frame → window_start layout opening ≤ at
  late_slot past at frame high (inl trigger) = absurd (omega (arith, high, low layout.slots opening.cycle (width_of opening) opening.mask frame trigger.among))
  late_slot past at frame high (inr (inl request)) = absurd (no_request layout opening past at frame request)
  late_slot past at frame high (inr (inr (slot, offers))) = offers.late_enough

  module _ (polled : DataFrame → DataFrame) (carries : (slot : ℕ) (frame : DataFrame) → slot < most_slots → frame.identifier ≡ first_identifier + slot
      → bytes_sent bytes_of opening slot ≡ Some frame.bytes
      → ((polled frame).identifier ≡ frame.identifier) × (bytes_sent sends opening slot ≡ Some (polled frame).bytes)) where
    abbrev pub polled_of : TimedFrame → DataFrame
    polled_of sent = polled sent.frame

    -- the frame of a slot that is next is next with the other bytes, at another time of the window
    next_polled : (past others : List TimedFrame) (free at : ℕ) (sent : TimedFrame) → AreAlike past others → window_start layout opening ≤ sent.start → start_of layout opening ≤ sent.start
        → window_start layout opening ≤ at → start_of layout opening ≤ at → at < end_of_cycle layout opening
        → IsNext (offered_in bytes_of layout [] opening) past free (end_of_cycle layout opening) sent
        → IsLeastOffered (offered_in sends layout [] opening) others at (polled sent.frame) × ((polled sent.frame).identifier ≡ sent.frame.identifier)
    next_polled past others free at sent alike late_enough begun from since within next =
        let it = in_window_plain past sent.start sent.frame late_enough next.least.offered in
        let bytes = carries it.0 sent.frame it.1.known it.1.identifier it.1.bytes in (
          record {
            offered = inr (inr (
              it.0,
              record {
                begun = since;
                late_enough = from;
                within = within;
                known = it.1.known;
                flagged = it.1.flagged;
                unsent = (alike (first_identifier + it.0)).0 it.1.unsent;
                identifier = bytes.0 ∙ it.1.identifier;
                bytes = bytes.1;
              },
            ));
            least = λ other offers.
                let slot = in_window others at other from offers in
                let too = slot_too past others at sent.start other slot.0 alike slot.1 begun late_enough next.within in
                let least = next.least.least too.frame too.offered in
                omega (arith, least, too.same, bytes.0);
          },
          bytes.0,
        )

    -- the frames of the window, one right after the other
    behind : (window : List TimedFrame) (past others : List TimedFrame) (free at : ℕ) → AreAlike past others → AllSent (past ++ window)
        → window_start layout opening ≤ free → start_of layout opening ≤ free → window_start layout opening ≤ at → start_of layout opening ≤ at
        → Follows (offered_in bytes_of layout [] opening) past free (end_of_cycle layout opening) window
        → Follows (offered_in sends layout [] opening) others at (end_of_cycle layout opening)
        (back_to_back (map polled_of window) at (end_of_cycle layout opening))
    behind [] past others free at alike all late_enough begun from since nothing =
        none_left past others at (end_of_cycle layout opening) alike (subst AllSent (append-nil past) all) from
    behind (sent ∷ later) past others free at alike all late_enough begun from since (next, follows) = elim (cases_lt at (end_of_cycle layout opening)) [
      | inl within ↦
          let start : window_start layout opening ≤ sent.start = omega (arith, late_enough, next.when_free) in
          let after : start_of layout opening ≤ sent.start = omega (arith, begun, next.when_free) in
          let one = next_polled past others free at sent alike start after from since within next in
          let new = sent_at at (polled sent.frame) in
          let rest = behind later (past ++ sent ∷ []) (others ++ new ∷ []) (end_of sent) (at + wire_length (polled sent.frame))
          (alike-more past others sent new (sym one.1) after since alike)
          (subst AllSent (sym (append_assoc past (sent ∷ []) later)) all)
          (omega (arith, start)) (omega (arith, after)) (omega (arith, from)) (omega (arith, since)) follows in
          rw (lt-ltb at (end_of_cycle layout opening) within) (grind (arith, low))
      | inr past_end ↦
          rw (le-ltb at (end_of_cycle layout opening) past_end) (λ time frame low high. absurd (omega (arith, low, high, past_end)))
    ]

    abbrev timed : List TimedFrame → List TimedFrame
    timed window = sent_anew polled (end_of_cycle layout opening) window

    -- the frames from the first frame of a slot on
    from_first : (window : List TimedFrame) (past others : List TimedFrame) (free : ℕ) → AreAlike past others → AllSent (past ++ window) → start_of layout opening ≤ free
        → ((sent : TimedFrame) → slice_get window 0 ≡ Some sent → greatest_trigger < sent.frame.identifier)
        → Follows (offered_in bytes_of layout [] opening) past free (end_of_cycle layout opening) window
        → Follows (offered_in sends layout [] opening) others free (end_of_cycle layout opening) (timed window)
    from_first [] past others free alike all begun slot nothing = nothing_too past others free (end_of_cycle layout opening) alike nothing
    from_first (sent ∷ later) past others free alike all begun slot (next, follows) =
        let start = late_slot past sent.start sent.frame (slot sent refl) next.least.offered in
        let after : start_of layout opening ≤ sent.start = omega (arith, begun, next.when_free) in
        let one = next_polled past others free sent.start sent alike start after start after next.within next in
        let new = sent_at sent.start (polled sent.frame) in
        let rest = behind later (past ++ sent ∷ []) (others ++ new ∷ []) (end_of sent) (sent.start + wire_length (polled sent.frame))
        (alike-more past others sent new (sym one.1) after after alike)
        (subst AllSent (sym (append_assoc past (sent ∷ []) later)) all)
        (omega (arith, start)) (omega (arith, after)) (omega (arith, start)) (omega (arith, after)) follows in
        rw (lt-ltb sent.start (end_of_cycle layout opening) next.within) (
          record {
            when_free = next.when_free;
            within = next.within;
            first = nothing_too past others free sent.start alike next.first;
            least = one.0;
            whole = refl;
          },
          rest,
        )

    -- all frames of the cycle: those before the first frame of a slot stay as they are
    pub retimed : (front window : List TimedFrame) (past others : List TimedFrame) (free : ℕ) → AreAlike past others → AllSent (past ++ (front ++ window)) → start_of layout opening ≤ free
        → All (λ sent. (slot : ℕ) → slot < most_slots → sent.frame.identifier ≡ first_identifier + slot → ⊥) front
        → ((sent : TimedFrame) → slice_get window 0 ≡ Some sent → greatest_trigger < sent.frame.identifier)
        → Follows (offered_in bytes_of layout [] opening) past free (end_of_cycle layout opening) (front ++ window)
        → Follows (offered_in sends layout [] opening) others free (end_of_cycle layout opening) (front ++ timed window)
    retimed [] window past others free alike all begun none slot follows = from_first window past others free alike all begun slot follows
    retimed (sent ∷ front) window past others free alike all begun none slot (next, follows) =
        let after : start_of layout opening ≤ sent.start = omega (arith, begun, next.when_free) in
        let trigger = is_trigger past sent.start sent.frame (All-head (λ s. (slot : ℕ) → slot < most_slots → s.frame.identifier ≡ first_identifier + slot → ⊥) sent front none) next.least.offered in (
          record {
            when_free = next.when_free;
            within = next.within;
            first = nothing_too past others free sent.start alike next.first;
            least = record {
              offered = inl (record { begun = trigger.begun; within = trigger.within; among = trigger.among; unsent = (alike sent.frame.identifier).0 trigger.unsent });
              least = λ other offers.
                  let too = offered_too past others sent.start other alike offers in
                  let least = next.least.least too.frame too.offered in
                  omega (arith, least, too.same);
            };
            whole = next.whole;
          },
          retimed front window (past ++ sent ∷ []) (others ++ sent ∷ []) (end_of sent) (alike-more past others sent sent refl after after alike)
              (subst AllSent (sym (append_assoc past (sent ∷ []) (front ++ window))) all) (omega (arith, after))
              (All-tail (λ s. (slot : ℕ) → slot < most_slots → s.frame.identifier ≡ first_identifier + slot → ⊥) sent front none) slot follows,
        )
