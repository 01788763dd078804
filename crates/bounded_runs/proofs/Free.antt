-- The bus is free when the asynchronous window of a cycle opens.
use Rattle.std.proofs.Common.{◌≡◌, ℕ, ◌+◌, ◌*◌, ◌/◌, ◌<◌, ◌≤◌, List, ◌∷◌, ◌++◌, All, Contains, get_or, ◌⊎◌, inl, inr, refl, sym, ◌∙◌, subst, arith, div-lt_iff_lt-mul, le-div_iff_mul-le, mul-le-mul_right}
use Rattle.std.specs.Prelude.{◌==◌}
use Rattle.std.proofs.lemmas.Bool.{cases_lt, eq-eqb}
use Rattle.std.proofs.lemmas.List.Elements.{All-contains, All-filter, Contains-append_cases, Contains-append_left, Contains-get_or}
use Rattle.profile.specs.Limits.{least_asynchronous}
use Rattle.can_frame.specs.Wire.{wire_length}
use Rattle.can_frame.specs.declared.data_frame.TimedFrame.{TimedFrame}
use Rattle.cycle_layout.specs.Layout.{CycleLayout, IsLayout, async_open, trigger_part}
use Rattle.requirement_table.specs.Instance.{Instance}
use Rattle.requirement_table.specs.Opening.{Opening, width_of}
use Rattle.async_window.specs.declared.request.Request.{Request}
use Rattle.bus_line.specs.Trace.{end_of}
use Rattle.node_model.specs.Opening.{start_of}
use Rattle.cycle_engine.specs.Cycle.{IsRequestFrame, IsSlotFrame, RunsCycle, cycle_of, frames_in}
use Rattle.cycle_engine.proofs.Shared.{triggers-in_part}
use Rattle.bounded_runs.specs.Runs.{IsBoundedRun}
use Rattle.async_bound.proofs.Shared.{Contains-filter}

module _ (sends : Instance → List ℕ) (layout : CycleLayout) (known : IsLayout layout) (requests : List Request) (openings : List Opening)
    (count : ℕ) (trace : List TimedFrame) (run : IsBoundedRun sends layout requests openings count trace) where
  -- a frame of a cycle ends by the cycle's end, and has ended when the asynchronous window opens, or starts from then on
  pub record IsApart (cycle : ℕ) (sent : TimedFrame) : Type 0 where
    pub ends : end_of sent ≤ (cycle + 1) * layout.cycle
    pub apart : (end_of sent ≤ async_open layout cycle) ⊎ (async_open layout cycle ≤ sent.start)
    pub guarded : (end_of sent ≤ async_open layout cycle) ⊎ ((least_asynchronous ≤ sent.frame.identifier) ⊎ ((cycle + 1) * layout.cycle ≤ sent.start + layout.window))

  module _ (opening : Opening) (narrow : width_of opening ≤ layout.window)
      (runs : RunsCycle sends layout opening (frames_in layout opening.cycle trace)) where
    abbrev frames : List TimedFrame
    frames = frames_in layout opening.cycle trace

    length-in : (sent : TimedFrame) → Contains frames sent → sent.len ≡ wire_length sent.frame
    length-in sent has = All-contains (λ s. s.len ≡ wire_length s.frame) frames sent
        (All-filter (λ s. cycle_of layout s == opening.cycle) (λ s. s.len ≡ wire_length s.frame) trace run.can_trace.ordered.lengths) has

    abbrev triggers : List TimedFrame
    triggers = runs.trigger ∷ runs.second

    -- the frames are the trigger frames, and those behind them
    split : frames ≡ triggers ++ runs.later
    split = runs.all_frames

    trigger-is : (sent : TimedFrame) → Contains triggers sent → IsApart opening.cycle sent
    trigger-is sent has =
        let whole : All (λ s. s.len ≡ wire_length s.frame) triggers = λ k d within.
        length-in (get_or triggers k d) (subst (λ fs. Contains fs (get_or triggers k d)) (sym split)
        (Contains-append_left triggers runs.later (get_or triggers k d) (Contains-get_or triggers k d within))) in
        let ended = All-contains (λ s. end_of s ≤ start_of layout opening + trigger_part layout) triggers sent
        (triggers-in_part layout opening frames runs whole) has in
        let room = known.room in
        record { ends = omega (arith, ended, room); apart = inl (omega (arith, ended)); guarded = inl (omega (arith, ended)) }

    later-is : (sent : TimedFrame) → IsRequestFrame layout opening sent ⊎ IsSlotFrame layout opening sent → IsApart opening.cycle sent
    later-is sent (inl request) = record { ends = omega (arith, request.before); apart = inr request.after; guarded = inr (inl request.identifier) }
    later-is sent (inr slot) =
        let room = known.room in
        record { ends = slot.before; apart = inr (omega (arith, slot.after, room, narrow)); guarded = inr (inr (omega (arith, slot.after, narrow))) }

    of-frame : (sent : TimedFrame) → Contains frames sent → IsApart opening.cycle sent
    of-frame sent has =
        elim (Contains-append_cases triggers runs.later sent (subst (λ fs. Contains fs sent) split has)) [
          | inl trigger ↦ trigger-is sent trigger
          | inr later ↦ later-is sent (All-contains (λ s. IsRequestFrame layout opening s ⊎ IsSlotFrame layout opening s) runs.later sent runs.all later)
        ]

  in-cycle : (cycle : ℕ) → cycle < count → (sent : TimedFrame) → Contains trace sent → cycle_of layout sent ≡ cycle → IsApart cycle sent
  in-cycle cycle below sent has same =
      let is = run.opened cycle below in
      let runs = All-contains (λ o. RunsCycle sends layout o (frames_in layout o.cycle trace)) openings is.opening run.runs is.among in
      let here = Contains-filter (λ s. cycle_of layout s == is.opening.cycle) trace sent has (eq-eqb (cycle_of layout sent) is.opening.cycle (same ∙ sym is.number)) in
      subst (λ c. IsApart c sent) is.number (of-frame is.opening is.narrow runs sent here)

  -- what started before an asynchronous window has ended when it opens
  pub free-at : (cycle : ℕ) → cycle < count → (sent : TimedFrame) → Contains trace sent → sent.start < async_open layout cycle
      → end_of sent ≤ async_open layout cycle
  free-at cycle below sent has early =
      let range = known.cycle_range.above in
      let some_time : 0 < layout.cycle = omega arith in
      let room = known.room in
      let least = known.window_range.above in
      let its : cycle_of layout sent < cycle + 1 = (div-lt_iff_lt-mul some_time).1 (omega (arith, early, room, least)) in
      let apart = in-cycle (cycle_of layout sent) (omega arith) sent has refl in
      elim (cases_lt (cycle_of layout sent) cycle) [
        | inl before ↦
            let whole : (cycle_of layout sent + 1) * layout.cycle ≤ cycle * layout.cycle = mul-le-mul_right layout.cycle (omega arith) in
            omega (arith, apart.ends, whole)
        | inr there ↦
            let same : cycle_of layout sent ≡ cycle = omega arith in
            elim apart.apart [
              | inl ended ↦ subst (λ c. end_of sent ≤ async_open layout c) same ended
              | inr late ↦
                  let late_here : async_open layout cycle ≤ sent.start = subst (λ c. async_open layout c ≤ sent.start) same late in
                  absurd (omega (arith, late_here, early))
            ]
      ]

  -- a frame that covers a time in the room of a cycle is that of a request
  pub is-request : (cycle : ℕ) → cycle < count → (sent : TimedFrame) → Contains trace sent → (at : ℕ) → sent.start ≤ at → at < end_of sent
      → async_open layout cycle ≤ at → at + layout.window < (cycle + 1) * layout.cycle → least_asynchronous ≤ sent.frame.identifier
  is-request cycle below sent has at from before late early =
      let range = known.cycle_range.above in
      let some_time : 0 < layout.cycle = omega arith in
      let opened : async_open layout cycle ≤ sent.start = elim (cases_lt sent.start (async_open layout cycle)) [
        | inl too_early ↦ let ended = free-at cycle below sent has too_early in absurd (omega (arith, ended, before, late))
        | inr is ↦ is
      ] in
      let low : cycle ≤ sent.start / layout.cycle = (le-div_iff_mul-le some_time).1 (omega (arith, opened)) in
      let high : sent.start / layout.cycle < cycle + 1 = (div-lt_iff_lt-mul some_time).1 (omega (arith, from, early)) in
      let same : cycle_of layout sent ≡ cycle = omega (arith, low, high) in
      elim (in-cycle cycle below sent has same).guarded [
        | inl ended ↦ absurd (omega (arith, ended, before, late))
        | inr (inl is) ↦ is
        | inr (inr slot) ↦ absurd (omega (arith, slot, from, early))
      ]
