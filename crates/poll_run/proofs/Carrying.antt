-- A polled run that is brought on by one event.
use Rattle.std.proofs.Common.{◌≡◌, ℕ, ◌+◌, ◌*◌, ◌<◌, ◌≤◌, true, false, cond, List, [], ◌∷◌, ◌++◌, All, Contains, Option, map, length, sym, ap, ◌∙◌, subst, arith, add-zero}
use Rattle.std.specs.List.{range_with_len}
use Rattle.std.specs.Prelude.{vec_capacity, ◌&&◌}
use Rattle.std.proofs.lemmas.List.{append-nil}
use Rattle.std.proofs.lemmas.List.Elements.{All-cons, All-nil, Contains-get_or}
use Rattle.change_protocol.specs.declared.operations.Act.{Act}
use Rattle.can_frame.specs.declared.data_frame.TimedFrame.{TimedFrame}
use Rattle.cycle_layout.specs.Layout.{CycleLayout, IsLayout}
use Rattle.requirement_table.specs.Instance.{Instance, bytes_of}
use Rattle.requirement_table.specs.Opening.{Opening, width_of}
use Rattle.requirement_table.specs.declared.entries.Placed.{Placed}
use Rattle.admission_rules.specs.declared.Rules.{Rules}
use Rattle.async_window.specs.declared.request.Request.{Request}
use Rattle.bus_line.specs.Trace.{Follows}
use Rattle.cycle_engine.specs.Cycle.{FitsWindow, RunsCycle}
use Rattle.cycle_engine.specs.Offered.{AreOfDistinctCycles, SendsWhole, offered_in}
use Rattle.master_core.specs.Calls.{Call, asked, call_of, opens}
use Rattle.master_core.specs.declared.event.Event.{Event}
use Rattle.master_core.specs.declared.event.Event.TheVariants.{Open}
use Rattle.master_core.specs.History.{IsLegal, is_open, next_of, placed_of}
use Rattle.master_core.specs.Openings.{openings_of}
use Rattle.master_core.specs.Orders.{StandsFor}
use Rattle.kept_run.specs.Progress.{IsUnderWay}
use Rattle.kept_run.specs.Setting.{IsSetting, Setting}
use Rattle.kept_run.proofs.Shared.{SameIn, follows-same, next_of-push, stands-now}
use Rattle.bus_trace.specs.EventRows.{BeginsCycle, rows_of_event, width_told_in}
use Rattle.bus_trace.specs.Log.{events_rows, triggers_in}
use Rattle.master_core.specs.Accepted.{all_accepted, refuses_nothing}
use Rattle.replay_run.specs.declared.bus.Bus.{Bus}
use Rattle.replay_run.specs.Progress.{BringsOn, CanTellLast, GoesStill, IsBroughtOn, IsGoing, IsRunNext, RunsNext}
use Rattle.replay_run.specs.Runs.{CanRun, RunsOn}
use Rattle.replay_run.proofs.Shared.{distinct}
use Rattle.sporadic_poll.specs.declared.stream.Stream.{Stream}
use Rattle.sporadic_poll.specs.Polled.{AreRides, lengths_of, polled_bytes}
use Rattle.sporadic_poll.specs.Ride.{IsRide}
use Rattle.sporadic_poll.specs.Rides.{AreFates, AreRidesAt, HaveRidden, IsPlainCycle, Riding}
use Rattle.sporadic_poll.specs.Waiting.{ride_of}
use Rattle.poll_run.specs.declared.polled.Polled.{Polled}
use Rattle.poll_run.specs.PolledRun.{polled_setting}
use Rattle.poll_run.specs.Polling.{CanPoll, IsPolledAt, IsPolledGoing, IsPolledOn, PollsOn, SoFar}
use Rattle.poll_run.proofs.Bytes.{polled-whole}
use Rattle.poll_run.proofs.Calls.{closed-by, quiet-opened, quiet-push}
use Rattle.poll_run.proofs.Openings.{all-front, all-last, openings-closed, openings-push, right-last}
use Rattle.poll_run.proofs.SameInstances.{fates-same, plain-same, rides-same}

-- what laws of the crates below say of *Ride*
pub record RideLaws : Type 0 where
  pub is : (layout_cycle : ℕ) (streams : List Stream) (slot : ℕ) (lengths : ℕ → Option ℕ)
      → IsRide layout_cycle streams slot lengths (ride_of layout_cycle streams slot lengths)
  pub at : (layout_cycle : ℕ) (streams : List Stream) (openings : List Opening) (opening : Opening) (carried : ℕ → ℕ → Option ℕ)
      → AreOfDistinctCycles openings → Contains openings opening → AreRides layout_cycle streams openings carried
      → AreRidesAt layout_cycle streams opening (lengths_of openings) carried
  pub cycles : (rules : Rules) (history : List Event) → IsLegal rules history
      → map (λ o. o.cycle) (openings_of history) ≡ range_with_len 0 (next_of history)

-- a setting in its ranges is so whatever its instances carry
pub known-polled : (setting : Setting) (streams : List Stream) (carried : ℕ → ℕ → Option ℕ) → IsSetting setting → IsSetting (polled_setting setting streams carried)
known-polled setting streams carried is = grind arith

-- what instances take by *Ride*
abbrev pub some_rides : ℕ → List Stream → List Opening → ℕ → ℕ → Option ℕ
some_rides layout_cycle streams openings slot = ride_of layout_cycle streams slot (lengths_of openings slot)

module _ (laws : RideLaws) (setting : Setting) (streams : List Stream) (history : List Event) (legal : IsLegal setting.rules history) where
  pub are-some : AreRides setting.layout.cycle streams (openings_of history) (some_rides setting.layout.cycle streams (openings_of history))
  are-some slot known = laws.is setting.layout.cycle streams slot (lengths_of (openings_of history) slot)

  -- what holds of whatever instances take holds where they take requests by *Ride*
  pub of-rides : (Holds : (ℕ → ℕ → Option ℕ) → Type 0) (carried : ℕ → ℕ → Option ℕ) → SoFar setting streams history Holds
      → AreRides setting.layout.cycle streams (openings_of history) carried → Holds carried
  of-rides Holds carried holds rides =
      let apart = distinct (openings_of history) (next_of history) (laws.cycles setting.rules history legal) in
      holds (lengths_of (openings_of history)) carried
      (λ k d within. laws.at setting.layout.cycle streams (openings_of history) _ carried apart (Contains-get_or (openings_of history) k d within) rides)

-- what laws of the crates below say of a cycle that is opened
pub record CycleLaws : Type 0 where
  pub rides : RideLaws
  pub opened : (setting : Setting) (history : List Event) (cycle mask : ℕ) (trace frames : List TimedFrame)
      → IsSetting setting → SendsWhole setting.sends → IsUnderWay setting history trace → IsLegal setting.rules (history ++ Open cycle mask ∷ [])
      → Follows (offered_in setting.sends setting.layout setting.requests (record { cycle = cycle; mask = mask; placed = placed_of history }))
      trace (cycle * setting.layout.cycle) ((cycle + 1) * setting.layout.cycle) frames
      → IsUnderWay setting (history ++ Open cycle mask ∷ []) (trace ++ frames)
  pub runs : (setting : Setting) (history : List Event) (cycle mask : ℕ) (trace frames : List TimedFrame)
      → IsSetting setting → SendsWhole setting.sends → IsUnderWay setting history trace → IsLegal setting.rules (history ++ Open cycle mask ∷ [])
      → Follows (offered_in setting.sends setting.layout setting.requests (record { cycle = cycle; mask = mask; placed = placed_of history }))
      trace (cycle * setting.layout.cycle) ((cycle + 1) * setting.layout.cycle) frames
      → RunsCycle setting.sends setting.layout (record { cycle = cycle; mask = mask; placed = placed_of history }) frames
  pub fits : (setting : Setting) (history : List Event) (cycle mask : ℕ) → IsSetting setting → IsLegal setting.rules (history ++ Open cycle mask ∷ [])
      → FitsWindow setting.layout (record { cycle = cycle; mask = mask; placed = placed_of history })
  pub whole : SendsWhole bytes_of
  pub begin : (sends : Instance → List ℕ) (layout : CycleLayout) (opening : Opening) (frames : List TimedFrame) → IsLayout layout
      → FitsWindow layout opening → RunsCycle sends layout opening frames → BeginsCycle opening.cycle opening.mask frames
  pub width : (sends : Instance → List ℕ) (layout : CycleLayout) (opening : Opening) (frames : List TimedFrame)
      → RunsCycle sends layout opening frames → width_told_in frames ≡ width_of opening
  pub rows : (rules : Rules) (trace frames : List TimedFrame) (history : List Event) (cycle mask : ℕ) → IsLegal rules history
      → triggers_in trace ≡ next_of history → cycle ≡ next_of history → BeginsCycle cycle mask frames
      → width_told_in frames ≡ width_of (record { cycle = cycle; mask = mask; placed = placed_of history })
      → events_rows (trace ++ frames) [] (history ++ Open cycle mask ∷ []) ≡ events_rows trace [] history ++ rows_of_event (Open cycle mask) frames
  pub counted : (trace frames : List TimedFrame) (cycle mask : ℕ) → BeginsCycle cycle mask frames → triggers_in (trace ++ frames) ≡ triggers_in trace + 1

-- what the instances of a cycle carry, and what became of requests then
pub record Carries (layout : CycleLayout) (streams : List Stream) (cycle : ℕ) (placed : List Placed) (plain frames : List TimedFrame) (old new : Riding) : Type 0 where
  pub taken : (mask : ℕ) (lengths carried : ℕ → ℕ → Option ℕ)
      → AreRidesAt layout.cycle streams (record { cycle = cycle; mask = mask; placed = placed }) lengths carried
      → HaveRidden carried cycle old → HaveRidden carried (cycle + 1) new
  pub fates : (openings : List Opening) (mask : ℕ) (lengths carried : ℕ → ℕ → Option ℕ)
      → AreRidesAt layout.cycle streams (record { cycle = cycle; mask = mask; placed = placed }) lengths carried → HaveRidden carried cycle old
      → IsPlainCycle layout (record { cycle = cycle; mask = mask; placed = placed }) plain → AreFates streams openings carried old.fates
      → AreFates streams (openings ++ record { cycle = cycle; mask = mask; placed = placed } ∷ []) carried new.fates
  pub frames_are : (mask : ℕ) (lengths carried : ℕ → ℕ → Option ℕ) (past : List TimedFrame)
      → AreRidesAt layout.cycle streams (record { cycle = cycle; mask = mask; placed = placed }) lengths carried → HaveRidden carried cycle old
      → IsPlainCycle layout (record { cycle = cycle; mask = mask; placed = placed }) plain → All (λ sent. sent.start < cycle * layout.cycle) past
      → Follows (offered_in (polled_bytes streams carried) layout [] (record { cycle = cycle; mask = mask; placed = placed })) past
      (cycle * layout.cycle) ((cycle + 1) * layout.cycle) frames

-- they do so by any list with the same instances in the cycle
carries-same : (layout : CycleLayout) (streams : List Stream) (cycle : ℕ) (list whole : List Placed) (plain frames : List TimedFrame) (old new : Riding)
    → SameIn cycle list whole → Carries layout streams cycle list plain frames old new → Carries layout streams cycle whole plain frames old new
carries-same layout streams cycle list whole plain frames old new same carries =
    let back : SameIn cycle whole list = λ slot. sym (same slot) in
    record {
      taken = λ mask lengths carried rides. carries.taken mask lengths carried (rides-same cycle mask layout.cycle streams whole list back lengths carried rides);
      fates = λ openings mask lengths carried rides rode run are.
          fates-same cycle mask streams list whole same openings carried new.fates
          (carries.fates openings mask lengths carried (rides-same cycle mask layout.cycle streams whole list back lengths carried rides) rode
          (plain-same cycle mask layout whole list back plain run) are);
      frames_are = λ mask lengths carried past rides rode run before.
          follows-same (polled_bytes streams carried) layout [] cycle mask list whole same past frames (cycle * layout.cycle) ((cycle + 1) * layout.cycle)
          (carries.frames_are mask lengths carried past (rides-same cycle mask layout.cycle streams whole list back lengths carried rides) rode
          (plain-same cycle mask layout whole list back plain run) before);
    }

-- a cycle is opened after the history of a polled run, and run on the bus without requests
pub record IsOpened (setting : Setting) (streams : List Stream) (history : List Event) (cycle mask : ℕ) (trace plain_trace plain frames : List TimedFrame)
    (old new : Riding) : Type 0 where
  pub known : IsSetting setting
  pub none : setting.requests ≡ []
  pub legal : IsLegal setting.rules (history ++ Open cycle mask ∷ [])
  pub before : All (λ sent. sent.start < next_of history * setting.layout.cycle) plain_trace
  pub follows : Follows (offered_in bytes_of setting.layout setting.requests (record { cycle = cycle; mask = mask; placed = placed_of history }))
      plain_trace (cycle * setting.layout.cycle) ((cycle + 1) * setting.layout.cycle) plain
  pub carries : Carries setting.layout streams cycle (placed_of history) plain frames old new
  pub under_way : SoFar setting streams history (λ carried. IsUnderWay (polled_setting setting streams carried) history trace)
  pub ridden : SoFar setting streams history (λ carried. HaveRidden carried (next_of history) old)
  pub are : SoFar setting streams history (λ carried. AreFates streams (openings_of history) carried old.fates)
  pub triggers : triggers_in trace ≡ next_of history

module _ (laws : CycleLaws) (setting : Setting) (streams : List Stream) (history : List Event) (cycle mask : ℕ) (trace plain_trace plain frames : List TimedFrame)
    (old new : Riding) (opened : IsOpened setting streams history cycle mask trace plain_trace plain frames old new) where
  abbrev opening : Opening
  opening = record { cycle = cycle; mask = mask; placed = placed_of history }

  abbrev after : List Event
  after = history ++ Open cycle mask ∷ []

  parts : IsLegal setting.rules history × (cycle ≡ next_of history)
  parts = let both = right-last setting.rules history (Open cycle mask) opened.legal in (both.0, both.1.0)

  abbrev E : ℕ
  E = setting.layout.cycle

  abbrev At : (ℕ → ℕ → Option ℕ) → (ℕ → ℕ → Option ℕ) → Opening → Type 0
  At lengths carried o = AreRidesAt E streams o lengths carried

  plain-cycle : IsPlainCycle setting.layout opening plain
  plain-cycle = grind (arith, parts, opened)

  openings-now : openings_of after ≡ openings_of history ++ opening ∷ []
  openings-now = openings-push history (Open cycle mask)

  next-now : next_of after ≡ cycle + 1
  next-now = next_of-push history (Open cycle mask) ∙ ap (λ (n : ℕ). n + 1) (sym parts.1)

  module _ (lengths carried : ℕ → ℕ → Option ℕ) (rides : All (At lengths carried) (openings_of after)) where
    earlier : All (At lengths carried) (openings_of history)
    earlier = all-front (At lengths carried) (openings_of history) (opening ∷ []) (subst (All (At lengths carried)) openings-now rides)

    here : At lengths carried opening
    here = all-last (At lengths carried) (openings_of history) opening (subst (All (At lengths carried)) openings-now rides)

    rode : HaveRidden carried cycle old
    rode = subst (λ (n : ℕ). HaveRidden carried n old) (sym parts.1) (opened.ridden lengths carried earlier)

    way : IsUnderWay (polled_setting setting streams carried) history trace
    way = opened.under_way lengths carried earlier

    follows-on : Follows (offered_in (polled_bytes streams carried) setting.layout setting.requests opening) trace (cycle * E) ((cycle + 1) * E) frames
    follows-on =
        subst (λ (requests : List Request). Follows (offered_in (polled_bytes streams carried) setting.layout requests opening) trace (cycle * E) ((cycle + 1) * E) frames)
        (sym opened.none)
        (opened.carries.frames_are mask lengths carried trace here rode plain-cycle
        (subst (λ (n : ℕ). All (λ sent. sent.start < n * E) trace) (sym parts.1) way.can_trace.within))

    pub way-on : IsUnderWay (polled_setting setting streams carried) after (trace ++ frames)
    way-on = laws.opened (polled_setting setting streams carried) history cycle mask trace frames (known-polled setting streams carried opened.known) (polled-whole laws.whole streams carried) way opened.legal follows-on

    pub rode-on : HaveRidden carried (next_of after) new
    rode-on = subst (λ (n : ℕ). HaveRidden carried n new) (sym next-now) (opened.carries.taken mask lengths carried here rode)

    pub fates-on : AreFates streams (openings_of after) carried new.fates
    fates-on = subst (λ (l : List Opening). AreFates streams l carried new.fates) (sym openings-now)
        (opened.carries.fates (openings_of history) mask lengths carried here rode plain-cycle (opened.are lengths carried earlier))

    runs-on : RunsCycle (polled_bytes streams carried) setting.layout opening frames
    runs-on = laws.runs (polled_setting setting streams carried) history cycle mask trace frames (known-polled setting streams carried opened.known) (polled-whole laws.whole streams carried) way opened.legal follows-on

  -- the frames begin with the cycle's trigger frame
  some-run : (carried : ℕ → ℕ → Option ℕ) × RunsCycle (polled_bytes streams carried) setting.layout opening frames
  some-run =
      let carried = some_rides E streams (openings_of after) in (
        carried,
        of-rides laws.rides setting streams after opened.legal (λ c. RunsCycle (polled_bytes streams c) setting.layout opening frames) carried runs-on
            (are-some laws.rides setting streams after opened.legal),
      )

  pub begins : BeginsCycle cycle mask frames
  begins = laws.begin (polled_bytes streams some-run.0) setting.layout opening frames opened.known.known (laws.fits setting history cycle mask opened.known opened.legal) some-run.1

  pub rows-on : events_rows (trace ++ frames) [] after ≡ events_rows trace [] history ++ rows_of_event (Open cycle mask) frames
  rows-on = grind (arith, parts, opened, begins, some-run)

  pub triggers-on : triggers_in (trace ++ frames) ≡ next_of after
  triggers-on = laws.counted trace frames cycle mask begins ∙ ap (λ (n : ℕ). n + 1) (opened.triggers ∙ sym parts.1) ∙ sym next-now

-- a run whose next cycle was opened and run, and whose instances took their requests
module _ (laws : CycleLaws) (run : Polled) (between : Bus) (after : Polled) (cycle : ℕ) (placed : List Placed)
    (carries : Carries run.layout run.rides.queued.streams cycle placed after.bus.segment after.frames.items run.rides after.rides)
    (still : GoesStill run.bus between) (on : BringsOn between after.bus after.bus.segment) (ran : RunsNext between after.bus after.bus.segment)
    (count : cycle ≡ next_of between.master.history) (stands : StandsFor (next_of between.master.history) (placed_of between.master.history) placed) where
  module _ (setting : Setting) (streams : List Stream) (trace : List TimedFrame) (is : IsPolledGoing setting streams trace run) where
    pub going : IsGoing setting is.plain_trace between
    going = still.going setting is.plain_trace is.going

    brought : IsBroughtOn setting is.plain_trace between after.bus after.bus.segment
    brought = on setting is.plain_trace going

    pub next : IsRunNext setting is.plain_trace between after.bus after.bus.segment
    next = ran setting is.plain_trace going

    abbrev history : List Event
    history = run.bus.master.history

    now : after.bus.master.history ≡ history ++ Open next.cycle next.mask ∷ []
    now = next.history ∙ ap (λ (h : List Event). h ++ Open next.cycle next.mask ∷ []) still.same

    legal-now : IsLegal setting.rules (history ++ Open next.cycle next.mask ∷ [])
    legal-now = subst (IsLegal setting.rules) now brought.going.plain.legal

    at-next : cycle ≡ next.cycle
    at-next = count ∙ ap next_of still.same ∙ sym (right-last setting.rules history (Open next.cycle next.mask) legal-now).1.0

    same-now : SameIn cycle placed (placed_of history)
    same-now = grind (arith, stands-now)

    carries-on : Carries setting.layout streams next.cycle (placed_of history) after.bus.segment after.frames.items run.rides after.rides
    carries-on = grind (arith, at-next, carries-same, same-now)

    opened : IsOpened setting streams history next.cycle next.mask trace is.plain_trace after.bus.segment after.frames.items run.rides after.rides
    opened = grind (arith, going, way, legal-now, next, carries-on)

    abbrev frames : List TimedFrame
    frames = after.frames.items

    pub begins-now : BeginsCycle next.cycle next.mask frames
    begins-now = begins laws setting streams history next.cycle next.mask trace is.plain_trace after.bus.segment frames run.rides after.rides opened

    pub ran-on : after.layout ≡ run.layout → after.rides.queued.streams ≡ run.rides.queued.streams
        → length after.rides.queued.next ≡ length run.rides.queued.next → vec_capacity run.frames ≤ vec_capacity after.frames
        → after.quiet ≡ run.quiet → map call_of after.bus.master.history ≡ map call_of between.master.history ++ opens ∷ []
        → IsPolledOn setting streams trace run after frames (opens ∷ [])
    ran-on layout same_streams slots capacity quiet calls =
        let whole : List Event = history ++ Open next.cycle next.mask ∷ [] in
        let back : whole ≡ after.bus.master.history = sym now in
        let room : 2128 ≤ vec_capacity run.frames = is.room in
        record {
          event = Open next.cycle next.mask;
          history = now;
          answers = calls ∙ ap (λ (h : List Event). map call_of h ++ opens ∷ []) still.same;
          polled = record {
            plain_trace = is.plain_trace ++ after.bus.segment;
            going = brought.going;
            no_requests = is.no_requests;
            same_layout = layout ∙ is.same_layout;
            same_streams = same_streams ∙ is.same_streams;
            all_slots = slots ∙ is.all_slots;
            under_way = subst (λ (h : List Event). SoFar setting streams h (λ carried. IsUnderWay (polled_setting setting streams carried) h (trace ++ frames))) back
                (way-on laws setting streams history next.cycle next.mask trace is.plain_trace after.bus.segment frames run.rides after.rides opened);
            ridden = subst (λ (h : List Event). SoFar setting streams h (λ carried. HaveRidden carried (next_of h) after.rides)) back
                (rode-on laws setting streams history next.cycle next.mask trace is.plain_trace after.bus.segment frames run.rides after.rides opened);
            fates = subst (λ (h : List Event). SoFar setting streams h (λ carried. AreFates streams (openings_of h) carried after.rides.fates)) back
                (fates-on laws setting streams history next.cycle next.mask trace is.plain_trace after.bus.segment frames run.rides after.rides opened);
            triggers = grind (arith, triggers-on, next, opened);
            room = omega (arith, room, capacity);
            quiet = quiet ∙ quiet-opened history next.cycle next.mask run.quiet is.quiet ∙ ap all_accepted back;
          };
          rows = ap (events_rows (trace ++ frames) []) now
              ∙ rows-on laws setting streams history next.cycle next.mask trace is.plain_trace after.bus.segment frames run.rides after.rides opened;
        }

  -- the rows of its event can be told
  pub can-tell : CanPoll run → CanTellLast after.bus.master.history after.frames.items
  can-tell can = record {
    event = Open (next can.0 can.1 can.2 can.3).cycle (next can.0 can.1 can.2 can.3).mask;
    ends = record { before = run.bus.master.history; is = now can.0 can.1 can.2 can.3 };
    near = tt;
    its = begins-now can.0 can.1 can.2 can.3;
  }

-- what laws of the crates below say of a call that opens no cycle
pub record CallLaws : Type 0 where
  pub under_way : (setting : Setting) (history calls : List Event) (trace : List TimedFrame)
      → All (λ call. is_open call ≡ false) calls → IsLegal setting.rules (history ++ calls) → IsUnderWay setting history trace
      → IsUnderWay setting (history ++ calls) trace
  pub rows : (trace : List TimedFrame) (history : List Event) (event : Event) → is_open event ≡ false
      → events_rows trace [] (history ++ event ∷ []) ≡ events_rows trace [] history ++ rows_of_event event []

-- a run whose master has answered a call that opens no cycle
pub answered-on : CallLaws → (setting : Setting) (streams : List Stream) (trace : List TimedFrame) (run after : Polled) (caller : ℕ) (act : Act)
    → BringsOn run.bus after.bus [] → map call_of after.bus.master.history ≡ map call_of run.bus.master.history ++ asked caller act ∷ []
    → after.layout ≡ run.layout → after.rides ≡ run.rides → after.frames ≡ run.frames
    → ((event : Event) → after.bus.master.history ≡ run.bus.master.history ++ event ∷ [] → after.quiet ≡ (run.quiet && refuses_nothing event))
    → IsPolledGoing setting streams trace run → IsPolledOn setting streams trace run after [] (asked caller act ∷ [])
answered-on laws setting streams trace run after caller act brings calls layout rides frames quiet is =
    let own : List Event = run.bus.master.history in
    let on = brings setting is.plain_trace is.going in
    let event : Event = on.event in
    let closed : is_open event ≡ false = closed-by own after.bus.master.history event caller act on.history calls in
    let whole : List Event = own ++ event ∷ [] in
    let back : whole ≡ after.bus.master.history = sym on.history in
    let same : trace ≡ trace ++ [] = sym (append-nil trace) in
    let legal : IsLegal setting.rules whole = subst (IsLegal setting.rules) on.history on.going.plain.legal in
    let one : All (λ call. is_open call ≡ false) (event ∷ []) =
    All-cons (λ call. is_open call ≡ false) event [] closed (All-nil (λ call. is_open call ≡ false)) in
    let next : next_of own ≡ next_of whole = sym (next_of-push own event ∙ ap (λ b. next_of own + cond b 1 0) closed ∙ add-zero (next_of own)) in
    let opened : openings_of own ≡ openings_of whole = sym (openings-closed own event closed) in
    let reach : (Holds : (ℕ → ℕ → Option ℕ) → Type 0) → SoFar setting streams own Holds → SoFar setting streams whole Holds = λ Holds holds lengths carried all.
    holds lengths carried (subst (All (λ o. AreRidesAt setting.layout.cycle streams o lengths carried)) (sym opened) all) in
    record {
      event = event;
      history = on.history;
      answers = calls;
      polled = record {
        plain_trace = is.plain_trace ++ [];
        going = on.going;
        no_requests = is.no_requests;
        same_layout = layout ∙ is.same_layout;
        same_streams = ap (λ (r : Riding). r.queued.streams) rides ∙ is.same_streams;
        all_slots = ap (λ (r : Riding). length r.queued.next) rides ∙ is.all_slots;
        under_way = subst (λ (h : List Event). SoFar setting streams h (λ carried. IsUnderWay (polled_setting setting streams carried) h (trace ++ []))) back
            (reach (λ carried. IsUnderWay (polled_setting setting streams carried) whole (trace ++ []))
            (λ lengths carried all. subst (IsUnderWay (polled_setting setting streams carried) whole) same
            (laws.under_way (polled_setting setting streams carried) own (event ∷ []) trace one legal (is.under_way lengths carried all))));
        ridden = subst (λ (h : List Event). SoFar setting streams h (λ carried. HaveRidden carried (next_of h) after.rides)) back
            (reach (λ carried. HaveRidden carried (next_of whole) after.rides)
            (λ lengths carried all. subst (λ (r : Riding). HaveRidden carried (next_of whole) r) (sym rides)
            (subst (λ (n : ℕ). HaveRidden carried n run.rides) next (is.ridden lengths carried all))));
        fates = subst (λ (h : List Event). SoFar setting streams h (λ carried. AreFates streams (openings_of h) carried after.rides.fates)) back
            (reach (λ carried. AreFates streams (openings_of whole) carried after.rides.fates)
            (λ lengths carried all. subst (λ (r : Riding). AreFates streams (openings_of whole) carried r.fates) (sym rides)
            (subst (λ (l : List Opening). AreFates streams l carried run.rides.fates) opened (is.fates lengths carried all))));
        triggers = ap triggers_in (sym same) ∙ is.triggers ∙ next ∙ ap next_of back;
        room = subst (λ v. 2128 ≤ vec_capacity v) (sym frames) is.room;
        quiet = quiet event on.history ∙ quiet-push own event run.quiet is.quiet ∙ ap all_accepted back;
      };
      rows = grind arith;
    }

-- a run of no calls yet
pub begins-polled : (setting : Setting) (streams : List Stream) (run : Polled) → IsGoing setting [] run.bus → run.bus.master.history ≡ []
    → setting.requests ≡ [] → run.layout ≡ setting.layout → run.rides.queued.streams ≡ streams → length run.rides.queued.next ≡ setting.rules.slots
    → ((carried : ℕ → ℕ → Option ℕ) → IsUnderWay (polled_setting setting streams carried) [] []) → ((carried : ℕ → ℕ → Option ℕ) → HaveRidden carried 0 run.rides)
    → ((carried : ℕ → ℕ → Option ℕ) → AreFates streams [] carried run.rides.fates) → 2128 ≤ vec_capacity run.frames → run.quiet ≡ true
    → IsPolledGoing setting streams [] run
begins-polled setting streams run going empty none layout same_streams slots way fresh are room quiet =
    let back : [] ≡ run.bus.master.history = sym empty in
    record {
      plain_trace = [];
      going = going;
      no_requests = none;
      same_layout = layout;
      same_streams = same_streams;
      all_slots = slots;
      under_way = grind (arith, way);
      ridden = subst (λ (h : List Event). SoFar setting streams h (λ carried. HaveRidden carried (next_of h) run.rides)) back (λ lengths carried all. fresh carried);
      fates = subst (λ (h : List Event). SoFar setting streams h (λ carried. AreFates streams (openings_of h) carried run.rides.fates)) back
          (λ lengths carried all. are carried);
      triggers = ap next_of back;
      room = room;
      quiet = quiet ∙ ap all_accepted back;
    }

-- a run that polls on runs on
pub polls-on : (run after : Polled) (frames : List TimedFrame) (calls : List Call) → PollsOn run after frames calls
    → RunsOn IsPolledAt run after.bus.master.history frames calls after
polls-on run after frames calls polls = λ on whole trace is.
    let brought = polls on.setting on.streams trace is.is_polled in
    let history : after.bus.master.history ≡ whole ++ brought.event ∷ [] =
    brought.history ∙ ap (λ (h : List Event). h ++ brought.event ∷ []) is.history_is in
    record {
      event = brought.event;
      ends = record { before = run.bus.master.history; is = brought.history };
      answers = ap (map call_of) (sym history) ∙ brought.answers ∙ ap (λ (h : List Event). map call_of h ++ calls) is.history_is;
      goes = record { history_is = history; is_polled = brought.polled };
      rows = grind (arith, brought);
    }

-- a run in some setting can poll
pub can-poll : (run : Polled) → CanRun IsPolledAt run → CanPoll run
can-poll run can = (can.0.setting, can.0.streams, can.2, can.3.is_polled)
