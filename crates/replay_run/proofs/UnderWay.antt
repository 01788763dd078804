-- A legal history and its CAN trace are those of a run under way: in each opened cycle the trace sends what the opening
-- says, and ends, whatever bytes an instance sends.
use Rattle.std.proofs.Common.{◌≡◌, ℕ, ◌+◌, ◌*◌, ◌<◌, ◌≤◌, ◌↔◌, false, List, [], ◌∷◌, ◌++◌, All, refl, sym, ap, ◌∙◌, subst, arith, inl, inr, append_assoc, append-nil}
use Rattle.std.proofs.Math.Nat.{mul-le-mul_right}
use Rattle.std.proofs.lemmas.List.Elements.{All-contains, All-cons, All-head, All-nil, All-tail, Contains-push, Contains-push_cases}
use Rattle.can_frame.specs.DataFrame.{DataFrame}
use Rattle.can_frame.specs.declared.data_frame.TimedFrame.{TimedFrame}
use Rattle.requirement_table.specs.Opening.{Opening}
use Rattle.bus_line.specs.Trace.{Follows, IsTrace, Offers, end_of, free_after, started_before}
use Rattle.master_core.specs.declared.event.Event.{Event}
use Rattle.master_core.specs.declared.event.Event.TheVariants.{Submit, Look, Open}
use Rattle.master_core.specs.History.{IsLegal, IsRight, is_open, next_of, placed_of}
use Rattle.master_core.specs.Openings.{openings_of}
use Rattle.cycle_engine.specs.Offered.{IsCanTrace, offered, offered_in}
use Rattle.kept_run.specs.Progress.{IsUnderWay}
use Rattle.kept_run.specs.Setting.{IsSetting, Setting}
use Rattle.kept_run.proofs.Shared.{AllAfter-parts}
use Rattle.replay_run.proofs.Beginnings.{cycles-between, front-trace, next_of-append}
use Rattle.replay_run.proofs.Fronts.{cut-at, in_cycle, started-all, started-none, started-within}
use Rattle.replay_run.proofs.Openings.{openings_of-append}

-- the laws of runs and of traces on which this stands
pub record RunLaws (setting : Setting) : Type 0 where
  pub begins : IsUnderWay setting [] []
  pub closed : (history calls : List Event) (trace : List TimedFrame)
      → All (λ call. is_open call ≡ false) calls
      → IsLegal setting.rules (history ++ calls) → IsUnderWay setting history trace
      → IsUnderWay setting (history ++ calls) trace
  pub opened : (history : List Event) (cycle mask : ℕ) (trace frames : List TimedFrame)
      → IsUnderWay setting history trace → IsLegal setting.rules (history ++ Open cycle mask ∷ [])
      → Follows (offered_in setting.sends setting.layout setting.requests (record { cycle = cycle; mask = mask; placed = placed_of history }))
      trace (cycle * setting.layout.cycle) ((cycle + 1) * setting.layout.cycle) frames
      → IsUnderWay setting (history ++ Open cycle mask ∷ []) (trace ++ frames)
  pub one_by_one : (openings : List Opening) (until : ℕ) (trace : List TimedFrame)
      → IsTrace (offered setting.sends setting.layout setting.requests openings) until trace ↔ Follows (offered setting.sends setting.layout setting.requests openings) [] 0 until trace
  pub behind : (openings : List Opening) (past : List TimedFrame) (free until : ℕ) (front back : List TimedFrame)
      → Follows (offered setting.sends setting.layout setting.requests openings) past free until (front ++ back)
      → Follows (offered setting.sends setting.layout setting.requests openings) (past ++ front) (free_after free front) until back

-- offers that are the same from a time on have the same frames from then on
module _ (offers others : Offers) (low : ℕ)
    (agree : (past : List TimedFrame) (at : ℕ) (frame : DataFrame) → low ≤ at → offers past at frame ↔ others past at frame) where
  follows-agree : (past : List TimedFrame) (free until : ℕ) (frames : List TimedFrame) → low ≤ free
      → Follows offers past free until frames
      → Follows others past free until frames
  follows-agree past free until [] late nothing = λ at frame after before offer.
      nothing at frame after before ((agree past at frame (omega (arith, late, after))).1 offer)
  follows-agree past free until (sent ∷ later) late (next, follows) =
      let here : low ≤ sent.start = omega (arith, late, next.when_free) in (
        record {
          when_free = next.when_free;
          within = next.within;
          first = λ at frame after before offer. next.first at frame after before ((agree past at frame (omega (arith, late, after))).1 offer);
          least = record {
            offered = (agree past sent.start sent.frame here).0 next.least.offered;
            least = λ other offer. next.least.least other ((agree past sent.start other here).1 offer);
          };
          whole = next.whole;
        },
        follows-agree (past ++ sent ∷ []) (end_of sent) until later (omega (arith, here)) follows,
      )

-- frames that start from a time on follow from then on
follows-later : (offers : Offers) (past : List TimedFrame) (free from until : ℕ) (frames : List TimedFrame)
    → free ≤ from
    → All (λ sent. from ≤ sent.start) frames → Follows offers past free until frames
    → Follows offers past from until frames
follows-later offers past free from until [] order late nothing = λ at frame after before offer. nothing at frame (omega (arith, order, after)) before offer
follows-later offers past free from until (sent ∷ later) order late (next, follows) = (
  record {
    when_free = All-head (λ s. from ≤ s.start) sent later late;
    within = next.within;
    first = λ at frame after before offer. next.first at frame (omega (arith, order, after)) before offer;
    least = next.least;
    whole = next.whole;
  },
  follows,
)

-- a bus on which all frames end by a time is free then
free_after-ended : (from until : ℕ) (frames : List TimedFrame) → from ≤ until
    → All (λ sent. end_of sent ≤ until) frames → free_after from frames ≤ until
free_after-ended from until [] early ended = early
free_after-ended from until (sent ∷ later) early ended =
    free_after-ended (end_of sent) until later (All-head (λ s. end_of s ≤ until) sent later ended) (All-tail (λ s. end_of s ≤ until) sent later ended)

module _ (setting : Setting) (laws : RunLaws setting) (known : IsSetting setting) where
  abbrev cycle_length : ℕ
  cycle_length = setting.layout.cycle

  -- the trace of the opened cycles of a history
  abbrev IsTraceOf : List Event → List TimedFrame → Type 0
  IsTraceOf history trace = IsCanTrace setting.sends setting.layout setting.requests (openings_of history) (next_of history) trace

  one-closed : (before : List Event) (event : Event) (trace : List TimedFrame) → is_open event ≡ false
      → next_of (before ++ event ∷ []) ≡ next_of before
      → IsLegal setting.rules (before ++ event ∷ []) → IsTraceOf (before ++ event ∷ []) trace
      → IsUnderWay setting before (started_before (next_of before * cycle_length) trace)
      → IsUnderWay setting (before ++ event ∷ []) trace
  one-closed before event trace closed next legal is way =
      let within : All (λ sent. sent.start < next_of before * cycle_length) trace =
      subst (λ n. All (λ sent. sent.start < n * cycle_length) trace) next is.within in
      laws.closed before (event ∷ []) trace (All-cons (λ e. is_open e ≡ false) event [] closed (All-nil (λ e. is_open e ≡ false))) legal
      (subst (IsUnderWay setting before) (started-all (next_of before * cycle_length) trace within) way)

  -- from its start on only the cycle that is opened last offers anything
  agree-last : (openings : List Opening) (o : Opening) → All (λ x. x.cycle < o.cycle) openings
      → (past : List TimedFrame) (at : ℕ) (frame : DataFrame)
      → o.cycle * cycle_length ≤ at
      → offered setting.sends setting.layout setting.requests (openings ++ o ∷ []) past at frame ↔ offered_in setting.sends setting.layout setting.requests o past at frame
  agree-last openings o below past at frame late = (
    λ offer. elim (Contains-push_cases openings o offer.0 offer.1) [
      | inl before ↦
          let time = in_cycle setting.sends setting.layout known.known setting.requests offer.0 past at frame offer.2 in
          let earlier = All-contains (λ x. x.cycle < o.cycle) openings offer.0 below before in
          let over : (offer.0.cycle + 1) * cycle_length ≤ o.cycle * cycle_length =
          mul-le-mul_right cycle_length (omega (arith, earlier)) in
          absurd (omega (arith, time.1, over, late))
      | inr is ↦ subst (λ x. offered_in setting.sends setting.layout setting.requests x past at frame) (sym is) offer.2
    ],
    λ offer. (o, Contains-push openings o, offer),
  )

  one-opened : (before : List Event) (cycle mask : ℕ) (trace : List TimedFrame)
      → IsLegal setting.rules (before ++ Open cycle mask ∷ [])
      → IsTraceOf (before ++ Open cycle mask ∷ []) trace
      → IsUnderWay setting before (started_before (next_of before * cycle_length) trace)
      → IsUnderWay setting (before ++ Open cycle mask ∷ []) trace
  one-opened before cycle mask trace legal is way =
      let o : Opening = record { cycle = cycle; mask = mask; placed = placed_of before } in
      let parts = AllAfter-parts (IsRight setting.rules) [] before (Open cycle mask ∷ []) legal in
      let now : cycle ≡ next_of before = parts.1.0.0 in
      let start : ℕ = cycle * cycle_length in
      let ends : ℕ = (cycle + 1) * cycle_length in
      let next : next_of (before ++ Open cycle mask ∷ []) ≡ cycle + 1 =
      next_of-append before (Open cycle mask ∷ []) ∙ ap (λ n. n + 1) (sym now) in
      let openings : List Opening = openings_of before in
      let with_it : openings_of (before ++ Open cycle mask ∷ []) ≡ openings ++ o ∷ [] =
      openings_of-append before (Open cycle mask ∷ []) in
      let front : List TimedFrame = started_before start trace in
      let cut = cut-at start trace is.ordered.apart in
      let earlier : IsUnderWay setting before front =
      subst (λ n. IsUnderWay setting before (started_before (n * cycle_length) trace)) (sym now) way in
      let between = cycles-between setting.rules [] before parts.0 in
      let below : All (λ x. x.cycle < cycle) openings =
      subst (λ n. All (λ x. x.cycle < n) openings) (sym now) (λ k d within. (between k d within).1) in
      let ended : All (λ sent. end_of sent ≤ start) front =
      subst (λ n. All (λ sent. end_of sent ≤ n * cycle_length) front) (sym now) earlier.ended in
      let trace_of : IsTrace (offered setting.sends setting.layout setting.requests (openings ++ o ∷ [])) ends trace =
      subst (λ n. IsTrace (offered setting.sends setting.layout setting.requests (openings ++ o ∷ [])) (n * cycle_length) trace) next
      (subst (λ os. IsCanTrace setting.sends setting.layout setting.requests os (next_of (before ++ Open cycle mask ∷ [])) trace) with_it is) in
      let all : Follows (offered setting.sends setting.layout setting.requests (openings ++ o ∷ [])) [] 0 ends (front ++ cut.later) =
      subst (Follows (offered setting.sends setting.layout setting.requests (openings ++ o ∷ [])) [] 0 ends) cut.all
      ((laws.one_by_one (openings ++ o ∷ []) ends trace).0 trace_of) in
      let back = laws.behind (openings ++ o ∷ []) [] 0 ends front cut.later all in
      let late = follows-later (offered setting.sends setting.layout setting.requests (openings ++ o ∷ [])) front (free_after 0 front) start ends cut.later
      (free_after-ended 0 start front (omega arith) ended) cut.after back in
      let follows = follows-agree (offered setting.sends setting.layout setting.requests (openings ++ o ∷ [])) (offered_in setting.sends setting.layout setting.requests o) start
      (agree-last openings o below) front start ends cut.later (omega arith) late in
      subst (IsUnderWay setting (before ++ Open cycle mask ∷ [])) (sym cut.all)
      (laws.opened before cycle mask front cut.later earlier legal follows)

  one-more : (before : List Event) (event : Event) (trace : List TimedFrame)
      → IsLegal setting.rules (before ++ event ∷ []) → IsTraceOf (before ++ event ∷ []) trace
      → IsUnderWay setting before (started_before (next_of before * cycle_length) trace)
      → IsUnderWay setting (before ++ event ∷ []) trace
  one-more before (Submit caller change from verdict trail) trace =
      one-closed before (Submit caller change from verdict trail) trace refl (next_of-append before (Submit caller change from verdict trail ∷ []) ∙ omega arith)
  one-more before (Look caller next) trace = one-closed before (Look caller next) trace refl (next_of-append before (Look caller next ∷ []) ∙ omega arith)
  one-more before (Open cycle mask) trace = one-opened before cycle mask trace

  all-more : (before events : List Event) (trace : List TimedFrame) → IsLegal setting.rules (before ++ events)
      → IsTraceOf (before ++ events) trace
      → IsUnderWay setting before (started_before (next_of before * cycle_length) trace)
      → IsUnderWay setting (before ++ events) trace
  all-more before [] trace legal is way =
      let within : All (λ sent. sent.start < next_of before * cycle_length) trace =
      subst (λ h. All (λ sent. sent.start < next_of h * cycle_length) trace) (append-nil before) is.within in
      subst (λ h. IsUnderWay setting h trace) (sym (append-nil before)) (subst (IsUnderWay setting before) (started-all (next_of before * cycle_length) trace within) way)
  all-more before (event ∷ events) trace legal is way =
      let row : (before ++ event ∷ []) ++ events ≡ before ++ event ∷ events = append_assoc before (event ∷ []) events in
      let whole : IsLegal setting.rules ((before ++ event ∷ []) ++ events) =
      subst (IsLegal setting.rules) (sym row) legal in
      let trace_of : IsTraceOf ((before ++ event ∷ []) ++ events) trace = subst (λ h. IsTraceOf h trace) (sym row) is in
      let so_far : IsLegal setting.rules (before ++ event ∷ []) =
      (AllAfter-parts (IsRight setting.rules) [] (before ++ event ∷ []) events whole).0 in
      let until : ℕ = next_of (before ++ event ∷ []) * cycle_length in
      let count : next_of (before ++ event ∷ []) ≡ next_of before + next_of (event ∷ []) =
      next_of-append before (event ∷ []) in
      let order : next_of before * cycle_length ≤ until = mul-le-mul_right cycle_length (omega (arith, count)) in
      let front : List TimedFrame = started_before until trace in
      let cut : started_before (next_of before * cycle_length) front ≡ started_before (next_of before * cycle_length) trace =
      started-within (next_of before * cycle_length) until trace order in
      let now = one-more before event front so_far (front-trace setting.sends setting.layout known.known setting.requests setting.rules (before ++ event ∷ []) events trace whole trace_of)
      (subst (IsUnderWay setting before) (sym cut) way) in
      subst (λ h. IsUnderWay setting h trace) row (all-more (before ++ event ∷ []) events trace whole trace_of now)

  pub is_under_way : (history : List Event) (trace : List TimedFrame) → IsLegal setting.rules history
      → IsTraceOf history trace → IsUnderWay setting history trace
  is_under_way history trace legal is =
      let none : started_before (0 * cycle_length) trace ≡ [] =
      started-none (0 * cycle_length) trace (λ k d within. omega arith) in
      all-more [] history trace legal is (subst (IsUnderWay setting []) (sym none) (laws.begins))
