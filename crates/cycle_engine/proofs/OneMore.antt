-- One opened cycle more, behind the CAN trace of those before it.
use Rattle.std.proofs.Common.{◌≡◌, ℕ, Bool, true, false, ◌+◌, ◌*◌, ◌<◌, ◌≤◌, eqb, max, List, [], ◌∷◌, ◌++◌, All, Contains, filter, refl, sym, ap, ◌∙◌, subst, arith, inl, inr}
use Rattle.std.proofs.lemmas.Grind.{common_steps}
use Rattle.std.proofs.lemmas.Bool.{cond-true, cond-false, eq-eqb, ne_eqb}
use Rattle.std.proofs.lemmas.List.{append-nil}
use Rattle.std.proofs.lemmas.List.Elements.{All-cons, All-contains, All-head, All-nil, All-push, All-tail, Contains-push, Contains-push_cases, filter-append}
use Rattle.std.proofs.Math.Nat.{div-eq_of_lt-le, div-lt_iff_lt-mul, mul-le-mul_right}
use Rattle.can_frame.specs.declared.data_frame.TimedFrame.{TimedFrame}
use Rattle.cycle_layout.specs.Layout.{CycleLayout, IsLayout}
use Rattle.requirement_table.specs.Instance.{Instance}
use Rattle.async_window.specs.declared.request.Request.{Request}
use Rattle.bus_line.specs.Trace.{AgreeAlong, Follows, end_of, free_after}
use Rattle.bus_line.proofs.Shared.{Follows-along, Follows-from_trace, Follows-joined, trace_from_Follows, within_from_Follows}
use Rattle.requirement_table.specs.Opening.{Opening}
use Rattle.node_model.specs.Opening.{start_of, end_of_cycle}
use Rattle.cycle_engine.specs.Cycle.{FitsWindow, FollowsTrace, RunsCycle, RunsCycles, cycle_of, frames_in}
use Rattle.cycle_engine.specs.Offered.{AreAsynchronous, IsCanTrace, SendsWhole, offered, offered_in}
use Rattle.cycle_engine.proofs.Belongs.{some_instance}
use Rattle.cycle_engine.proofs.Lists.{Contains-here, Contains-later}
use Rattle.cycle_engine.proofs.OneTrace.{in_cycle}
use Rattle.cycle_engine.proofs.Window.{IsFit, runs_cycle}

-- a filter that nothing passes, and one that everything passes
filter-none : (p : TimedFrame → Bool) (xs : List TimedFrame) → ((x : TimedFrame) → Contains xs x → p x ≡ false) → filter p xs ≡ []
filter-none p [] none = refl
filter-none p (x ∷ xs) none =
    cond-false (p x) _ _ (none x (Contains-here x xs)) ∙ filter-none p xs (λ y among. none y (Contains-later x xs y among))

filter-all : (p : TimedFrame → Bool) (xs : List TimedFrame) → ((x : TimedFrame) → Contains xs x → p x ≡ true) → filter p xs ≡ xs
filter-all p [] all = refl
filter-all p (x ∷ xs) all =
    cond-true (p x) _ _ (all x (Contains-here x xs)) ∙ ap (λ l. x ∷ l) (filter-all p xs (λ y among. all y (Contains-later x xs y among)))

-- a bus on which all frames end by a time is free then
pub free_after-ended : (from until : ℕ) (frames : List TimedFrame) → from ≤ until → All (λ sent. end_of sent ≤ until) frames → free_after from frames ≤ until
free_after-ended from until [] early ended = early
free_after-ended from until (sent ∷ later) early ended =
    free_after-ended (end_of sent) until later (All-head (λ s. end_of s ≤ until) sent later ended) (All-tail (λ s. end_of s ≤ until) sent later ended)

-- what holds of all holds of those in front
All-front : (P : TimedFrame → Type 0) (front back : List TimedFrame) → All P (front ++ back) → All P front
All-front P [] back all = All-nil P
All-front P (x ∷ front) back all = All-cons P x front (All-head P x (front ++ back) all) (All-front P front back (All-tail P x (front ++ back) all))

-- a bus on which no frame starts before a time is not free before it
pub free_after-begun : (low from : ℕ) (frames : List TimedFrame) → low ≤ from → All (λ sent. low ≤ sent.start) frames → low ≤ free_after from frames
free_after-begun low from [] late begun = late
free_after-begun low from (sent ∷ later) late begun =
    let first : low ≤ sent.start = All-head (λ s. low ≤ s.start) sent later begun in
    free_after-begun low (end_of sent) later (omega (arith, first)) (All-tail (λ s. low ≤ s.start) sent later begun)

module _ (sends : Instance → List ℕ) (layout : CycleLayout) (requests : List Request) (openings : List Opening) (opening : Opening) (trace frames : List TimedFrame)
    (known : IsLayout layout) (behind : FollowsTrace sends layout requests openings opening trace frames) where
  abbrev with_it : List Opening
  with_it = openings ++ opening ∷ []

  abbrev start : ℕ
  start = start_of layout opening

  abbrev ends : ℕ
  ends = end_of_cycle layout opening

  some_time : 0 < layout.cycle
  some_time = omega (arith, known.cycle_range.above)

  -- below the cycle's start, the opening offers nothing
  pub agree-before : AgreeAlong (offered sends layout requests openings) (offered sends layout requests with_it) [] [] 0 start trace
  agree-before = grind (arith, common_steps, in_cycle)

  -- from its start on, no other opening offers anything
  pub agree-after : AgreeAlong (offered_in sends layout requests opening) (offered sends layout requests with_it) trace trace start ends frames
  agree-after front back at frame split from early = (
    λ offer. (opening, Contains-push openings opening, offer),
    λ offer. elim (Contains-push_cases openings opening offer.0 offer.1) [
      | inl before ↦
          let time = in_cycle sends layout requests known offer.0 (trace ++ front) at frame offer.2 in
          let below = All-contains (λ o. o.cycle < opening.cycle) openings offer.0 behind.below before in
          let over : (offer.0.cycle + 1) * layout.cycle ≤ opening.cycle * layout.cycle = mul-le-mul_right layout.cycle (omega (arith, below)) in
          let begun : All (λ s. start ≤ s.start) (front ++ back) =
          subst (All (λ s. start ≤ s.start)) split (λ k d within. (within_from_Follows (offered_in sends layout requests opening) ends trace start frames behind.follows k d within).0) in
          let late = free_after-begun start start front (omega arith) (All-front (λ s. start ≤ s.start) front back begun) in
          absurd (omega (arith, time.1, over, from, late))
      | inr is ↦ subst (λ o. offered_in sends layout requests o (trace ++ front) at frame) (sym is) offer.2
    ],
  )

  longer : start ≤ ends
  longer = omega arith

  -- the trace with the frames of the cycle is the CAN trace
  pub more-can_trace : IsCanTrace sends layout requests with_it (opening.cycle + 1) (trace ++ frames)
  more-can_trace =
      let now = offered sends layout requests with_it in
      let before = Follows-from_trace (offered sends layout requests openings) start trace behind.can_trace in
      let front = Follows-along (offered sends layout requests openings) now [] [] 0 start trace agree-before before in
      let back = Follows-along (offered_in sends layout requests opening) now trace trace start ends frames agree-after behind.follows in
      let free : max start (free_after 0 trace) ≡ start = (let early = free_after-ended 0 start trace (omega arith) behind.ended in omega arith) in
      trace_from_Follows now ends (trace ++ frames)
      (Follows-joined now [] 0 start ends trace frames longer front
      (subst (λ from. Follows (offered sends layout requests with_it) trace from ends frames) (sym free) back))

  is_fit : FitsWindow layout opening → IsFit layout opening
  is_fit fits = grind (arith, some_instance)

  pub more-runs : SendsWhole sends → AreAsynchronous requests → FitsWindow layout opening → RunsCycle sends layout opening frames
  more-runs whole asynchronous fits = runs_cycle sends whole layout requests opening trace frames (is_fit fits) asynchronous behind.can_trace.within behind.follows

  all-ended : RunsCycle sends layout opening frames → All (λ sent. end_of sent ≤ ends) frames
  all-ended runs = grind (arith, common_steps)

  pub more-ended : SendsWhole sends → AreAsynchronous requests → FitsWindow layout opening → All (λ sent. end_of sent ≤ ends) (trace ++ frames)
  more-ended whole asynchronous fits = grind (arith, common_steps, all-ended, more-runs)

  -- the frames start in the cycle, and those before it do not
  in-cycle : (sent : TimedFrame) → Contains frames sent → cycle_of layout sent ≡ opening.cycle
  in-cycle sent among = grind (arith, within_from_Follows, div-eq_of_lt-le)

  before-cycle : (sent : TimedFrame) → Contains trace sent → cycle_of layout sent < opening.cycle
  before-cycle sent among = grind (arith, div-lt_iff_lt-mul, some_time)

  abbrev is_in : ℕ → TimedFrame → Bool
  is_in cycle sent = eqb (cycle_of layout sent) cycle

  pub more-cycles : SendsWhole sends → AreAsynchronous requests → FitsWindow layout opening → RunsCycles sends layout openings trace → RunsCycles sends layout with_it (trace ++ frames)
  more-cycles whole asynchronous fits cycles =
      All-push (λ o. RunsCycle sends layout o (frames_in layout o.cycle (trace ++ frames))) openings opening
      (λ k d within. grind (arith, filter-none, ne_eqb, in-cycle, filter-append, append-nil))
      (let none : frames_in layout opening.cycle trace ≡ [] = filter-none (is_in opening.cycle) trace (λ s among. ne_eqb _ _ (λ same. let is = before-cycle s among in omega arith)) in
      let all : frames_in layout opening.cycle frames ≡ frames = filter-all (is_in opening.cycle) frames (λ s among. eq-eqb _ _ (in-cycle s among)) in
      let same : frames_in layout opening.cycle (trace ++ frames) ≡ frames =
      filter-append (is_in opening.cycle) trace frames ∙ ap (λ l. l ++ frames_in layout opening.cycle frames) none ∙ all in
      subst (RunsCycle sends layout opening) (sym same) (more-runs whole asynchronous fits))
