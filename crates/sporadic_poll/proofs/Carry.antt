-- A cycle of the polled trace, by the cycle that was run without requests.
use Rattle.std.proofs.Common.{◌≡◌, inl, inr, ℕ, zero, suc, ◌+◌, ◌-◌, ◌<◌, ◌==◌, Bool, true, false, List, [], ◌∷◌, ◌++◌, drop, All, Contains, length, filter, get_or, Option, Some, None, IfSome, is_some, refl, sym, ap, subst, ◌∙◌, arith}
use Rattle.std.specs.Prelude.{nat_le, nat_lt, ◌&&◌, if◌then◌else◌, option_map, unwrap_or}
use Rattle.std.specs.List.{slice_get}
use Rattle.std.proofs.Math.Nat.{add-mul}
use Rattle.std.proofs.lemmas.Bool.{and_from, and_parts, eqb-true, le-leb, leb-true, lt-ltb}
use Rattle.std.proofs.lemmas.List.Elements.{All-append, All-contains, All-tail, Contains-append_cases, Contains-append_right}
use Rattle.std.proofs.lemmas.Option.{none-some, same_Some}
use Rattle.profile.specs.Limits.{first_identifier}
use Rattle.can_frame.specs.DataFrame.{DataFrame}
use Rattle.can_frame.specs.declared.data_frame.TimedFrame.{TimedFrame}
use Rattle.trigger_kind.specs.Kind.{greatest_trigger}
use Rattle.cycle_layout.specs.Layout.{CycleLayout, IsLayout}
use Rattle.requirement_table.specs.Instance.{Instance, bytes_of}
use Rattle.requirement_table.specs.Opening.{Opening}
use Rattle.bit_sets.specs.Sets.{has_bit, most_slots}
use Rattle.requirement_table.specs.Table.{IsWellPlaced, instance_in}
use Rattle.requirement_table.proofs.Shared.{found-in}
use Rattle.bus_line.specs.Trace.{AgreeAlong, Follows, end_of}
use Rattle.node_model.specs.Opening.{end_of_cycle, start_of}
use Rattle.node_model.specs.Offered.{HasNotStarted, bytes_sent}
use Rattle.cycle_engine.specs.Cycle.{FitsWindow, FollowsTrace, RunsCycle}
use Rattle.cycle_engine.specs.Offered.{offered_in}
use Rattle.sporadic_poll.specs.declared.stream.Stream.{Stream}
use Rattle.sporadic_poll.specs.Polled.{is_polled, polled_bytes}
use Rattle.sporadic_poll.specs.Rides.{IsPlainCycle, bytes_or, polled_frame, sent_anew, slot_sent}
use Rattle.sporadic_poll.proofs.Retimed.{AllSent, alike-before, low, no_request, retimed}

-- the first of those that pass a test is one of all, and passes it
pub first-passes : {X : Type 0} (test : X → Bool) (xs : List X) (x : X) (rest : List X) → filter test xs ≡ x ∷ rest → Contains xs x × (test x ≡ true)
first-passes test [] x rest is = absurd (omega (arith, ap length is))
first-passes {X} test (y ∷ ys) x rest is = by_test (first-passes test ys x rest) (test y) refl is
  where
    by_test : (filter test ys ≡ x ∷ rest → Contains ys x × (test x ≡ true)) → (passes : Bool) → test y ≡ passes → (if passes then y ∷ filter test ys else filter test ys) ≡ x ∷ rest
        → Contains (y ∷ ys) x × (test x ≡ true)
    by_test among true passes here = grind arith
    by_test among false passes later =
        let it = among later in
        ((suc it.0.0, omega (arith, it.0.1), it.0.2), it.1)

All-behind : {X : Type 0} (P : X → Type 0) (xs ys : List X) → All P (xs ++ ys) → All P ys
All-behind P [] ys all = all
All-behind P (x ∷ xs) ys all = All-behind P xs ys (All-tail P x (xs ++ ys) all)

-- offers of the cycle agree where all frames before started before it
pub agree : (layout : CycleLayout) (opening : Opening) (frames past : List TimedFrame) → All (λ sent. sent.start < start_of layout opening) past
    → AgreeAlong (offered_in bytes_of layout [] opening) (offered_in bytes_of layout [] opening) past [] (start_of layout opening) (end_of_cycle layout opening) frames
agree layout opening frames past before front back at frame split late within = (there, back_again)
  where
    one_way : (id : ℕ) → HasNotStarted layout opening id (past ++ front) → HasNotStarted layout opening id front
    one_way id all = All-behind (λ sent. sent.frame.identifier ≡ id → sent.start < start_of layout opening) past front all

    other_way : (id : ℕ) → HasNotStarted layout opening id front → HasNotStarted layout opening id (past ++ front)
    other_way id all = All-append (λ sent. sent.frame.identifier ≡ id → sent.start < start_of layout opening) past front (λ k d inside is. before k d inside) all

    there : offered_in bytes_of layout [] opening (past ++ front) at frame → offered_in bytes_of layout [] opening front at frame
    there h0 = grind (arith, one_way, no_request)

    back_again : offered_in bytes_of layout [] opening front at frame → offered_in bytes_of layout [] opening (past ++ front) at frame
    back_again h0 = grind (arith, other_way, no_request)

pub fresh_trace : (layout : CycleLayout) (opening : Opening) (frames : List TimedFrame) → Follows (offered_in bytes_of layout [] opening) [] (start_of layout opening) (end_of_cycle layout opening) frames
    → FollowsTrace bytes_of layout [] [] opening [] frames
fresh_trace layout opening frames follows = grind arith

-- all flagged slots were sent
pub all_sent : (layout : CycleLayout) (opening : Opening) (sends : Instance → List ℕ) (known : IsLayout layout) (fits : FitsWindow layout opening) (past frames : List TimedFrame)
    → RunsCycle bytes_of layout opening frames → AllSent layout opening sends known fits (past ++ frames)
all_sent layout opening sends known fits past frames runs slot few flagged unsent =
    let once = runs.each slot few flagged in
    let it = first-passes (λ sent. sent.frame.identifier == first_identifier + slot) runs.later once.sent [] once.once in
    let among : Contains frames once.sent = subst (λ l. Contains l once.sent) (sym runs.all_frames)
    (Contains-append_right (runs.trigger ∷ runs.second) runs.later once.sent it.0) in
    let early = All-contains (λ sent. sent.frame.identifier ≡ first_identifier + slot → sent.start < start_of layout opening) (past ++ frames) once.sent unsent
    (Contains-append_right past frames once.sent among) (eqb-true once.sent.frame.identifier (first_identifier + slot) it.1) in
    omega (arith, early, once.after, add-mul opening.cycle 1 layout.cycle, known.room, fits.width)

-- what stands first behind a front
pub drop-first : {X : Type 0} (xs : List X) (n : ℕ) → slice_get (drop n xs) 0 ≡ slice_get xs n
drop-first [] zero = refl
drop-first [] (suc n) = refl
drop-first (x ∷ xs) zero = refl
drop-first (x ∷ xs) (suc n) = drop-first xs n

-- the slot of a frame of a slot
pub slot_is : (frame : DataFrame) (slot : ℕ) → slot < most_slots → frame.identifier ≡ first_identifier + slot → slot_sent frame ≡ Some slot
slot_is frame slot few is = grind (arith, and_from, le-leb, lt-ltb)

-- a frame of a slot is one of a flagged slot
pub flagged_frame : (layout : CycleLayout) (opening : Opening) (known : IsLayout layout) (fits : FitsWindow layout opening) (frames past : List TimedFrame) (free : ℕ)
    → Follows (offered_in bytes_of layout [] opening) past free (end_of_cycle layout opening) frames → (sent : TimedFrame) (slot : ℕ) → Contains frames sent → slot_sent sent.frame ≡ Some slot
    → (slot < most_slots) × (has_bit opening.mask slot ≡ true)
flagged_frame layout opening known fits [] past free follows sent slot among is = absurd (omega (arith, among.1))
flagged_frame layout opening known fits (one ∷ later) past free (next, follows) sent slot (suc k, within, same) is =
    flagged_frame layout opening known fits later (past ++ one ∷ []) (end_of one) follows sent slot (k, omega (arith, within), same) is
flagged_frame layout opening known fits (one ∷ later) past free (next, follows) sent slot (zero, within, same) is =
    by_offer (ap (λ (s : TimedFrame). slot_sent s.frame) same ∙ is) next.least.offered
  where
    by_offer : slot_sent one.frame ≡ Some slot → offered_in bytes_of layout [] opening past one.start one.frame → (slot < most_slots) × (has_bit opening.mask slot ≡ true)
    by_offer here (inl trigger) = grind (arith, low)
    by_offer here (inr (inl request)) = absurd (no_request layout opening past one.start one.frame request)
    by_offer here (inr (inr (s, offers))) = grind (arith, same_Some, slot_is)

-- each flagged slot has a frame in the window
pub window_frame : (layout : CycleLayout) (opening : Opening) (frames front window : List TimedFrame) → RunsCycle bytes_of layout opening frames → frames ≡ front ++ window
    → All (λ sent. slot_sent sent.frame ≡ None) front → (slot : ℕ) → slot < most_slots → has_bit opening.mask slot ≡ true
    → (sent : TimedFrame) × Contains window sent × (slot_sent sent.frame ≡ Some slot)
window_frame layout opening frames front window runs split none slot few flagged =
    let once = runs.each slot few flagged in
    let it = first-passes (λ sent. sent.frame.identifier == first_identifier + slot) runs.later once.sent [] once.once in
    let among : Contains frames once.sent = subst (λ l. Contains l once.sent) (sym runs.all_frames)
    (Contains-append_right (runs.trigger ∷ runs.second) runs.later once.sent it.0) in
    let is = slot_is once.sent.frame slot few (eqb-true once.sent.frame.identifier (first_identifier + slot) it.1) in
    elim (Contains-append_cases front window once.sent (subst (λ l. Contains l once.sent) split among)) [
      | inl here ↦ absurd (none-some slot (sym (All-contains (λ (sent : TimedFrame). slot_sent sent.frame ≡ None) front once.sent none here) ∙ is))
      | inr there ↦ (once.sent, there, is)
    ]

module _ (streams : List Stream) (carried : ℕ → ℕ → Option ℕ) (opening : Opening) (well : IsWellPlaced opening.placed) where
  -- a frame of a slot gets the bytes of its instance
  pub carries : (slot : ℕ) (frame : DataFrame) → slot < most_slots → frame.identifier ≡ first_identifier + slot → bytes_sent bytes_of opening slot ≡ Some frame.bytes
      → ((polled_frame streams carried opening.placed opening.cycle frame).identifier ≡ frame.identifier)
      × (bytes_sent (polled_bytes streams carried) opening slot ≡ Some ((polled_frame streams carried opening.placed opening.cycle frame).bytes))
  carries slot frame few is bytes =
      let made : polled_frame streams carried opening.placed opening.cycle frame
      ≡ record { identifier = frame.identifier; bytes = bytes_or streams carried opening.placed opening.cycle slot frame.bytes } = rw (slot_is frame slot few is) refl in (grind (arith, by_found))
    where
      by_test : (i : Instance) (test : Bool) → is_polled streams slot ≡ test → i.placed.entry.slot ≡ slot → Some (bytes_of i) ≡ Some frame.bytes
          → Some (polled_bytes streams carried i) ≡ Some (if test then polled_bytes streams carried i else frame.bytes)
      by_test i true polled its same = refl
      by_test i false polled its same = (rw (its, polled) refl) ∙ same

      by_found : (found : Option Instance) → instance_in opening.placed slot opening.cycle ≡ found → option_map bytes_of found ≡ Some frame.bytes
          → option_map (polled_bytes streams carried) found ≡ Some (if is_polled streams slot then unwrap_or (option_map (polled_bytes streams carried) found) frame.bytes else frame.bytes)
      by_found None at same = absurd (none-some frame.bytes same)
      by_found (Some i) at same = by_test i (is_polled streams slot) refl ((found-in opening.placed slot opening.cycle i well at).of_slot) same

  -- the frames of the cycle follow in the polled trace
  pub frames_follow : (layout : CycleLayout) (frames front window out past : List TimedFrame) → IsLayout layout → IsPlainCycle layout opening frames → RunsCycle bytes_of layout opening frames
      → frames ≡ front ++ window → All (λ sent. slot_sent sent.frame ≡ None) front
      → IfSome (slice_get window 0) (λ sent. is_some (slot_sent sent.frame) ≡ true)
      → All (λ sent. sent.start < start_of layout opening) past
      → out ≡ front ++ sent_anew (polled_frame streams carried opening.placed opening.cycle) (end_of_cycle layout opening) window
      → Follows (offered_in (polled_bytes streams carried) layout [] opening) past (start_of layout opening) (end_of_cycle layout opening) out
  frames_follow layout frames front window out past known plain runs split none first before put =
      let sends = polled_bytes streams carried in
      let follows = subst (Follows (offered_in bytes_of layout [] opening) plain.past (start_of layout opening) (end_of_cycle layout opening)) split plain.follows in
      let all = subst (λ l. AllSent layout opening sends known plain.fits (plain.past ++ l)) split (all_sent layout opening sends known plain.fits plain.past frames runs) in
      subst (Follows (offered_in sends layout [] opening) past (start_of layout opening) (end_of_cycle layout opening)) (sym put)
      (retimed layout opening sends known plain.fits (polled_frame streams carried opening.placed opening.cycle) carries front window plain.past past (start_of layout opening)
      (alike-before layout opening sends known plain.fits plain.past past plain.before before) all (omega arith)
      (λ k d inside slot few is. none-some slot (sym (none k d inside) ∙ slot_is (get_or front k d).frame slot few is))
      (λ sent at. high sent (subst (λ o. IfSome o (λ s. is_some (slot_sent s.frame) ≡ true)) at first)) follows)
    where
      high : (sent : TimedFrame) → is_some (slot_sent sent.frame) ≡ true → greatest_trigger < sent.frame.identifier
      high sent is = by_test (nat_le first_identifier sent.frame.identifier && nat_lt sent.frame.identifier (first_identifier + most_slots)) refl is
        where
          by_test : (test : Bool) → (nat_le first_identifier sent.frame.identifier && nat_lt sent.frame.identifier (first_identifier + most_slots)) ≡ test
              → is_some (if test then Some (sent.frame.identifier - first_identifier) else None) ≡ true → greatest_trigger < sent.frame.identifier
          by_test test passes some = grind (arith, leb-true, and_parts)
