-- The rows of a history with one event more.
use Rattle.std.proofs.Common.{◌≡◌, ◌≢◌, ℕ, ◌+◌, ◌≤◌, ◌⊎◌, false, cond, eqb, List, [], ◌∷◌, ◌++◌, fold, get_or, All, inl, inr, refl, subst, sym, ap, ◌∙◌, arith, append_assoc}
use Rattle.std.proofs.lemmas.Bool.{ne_eqb, eq-eqb, cond-true, cond-false}
use Rattle.std.proofs.lemmas.List.{append-nil}
use Rattle.std.proofs.lemmas.List.Elements.{All-append, All-head, All-tail}
use Rattle.std.proofs.lemmas.List.Sums.{fold-append, sum_by-cons}
use Rattle.can_frame.specs.declared.data_frame.TimedFrame.{TimedFrame}
use Rattle.cycle_layout.specs.Layout.{CycleLayout, IsLayout}
use Rattle.requirement_table.specs.Instance.{Instance}
use Rattle.requirement_table.specs.Opening.{Opening, width_of}
use Rattle.trigger_codec.specs.Bytes.{trigger_bytes, width_told}
use Rattle.cycle_engine.specs.Cycle.{FitsWindow, IsRequestFrame, IsSlotFrame, RunsCycle}
use Rattle.admission_rules.specs.declared.Rules.{Rules}
use Rattle.master_core.specs.declared.event.Event.{Event}
use Rattle.master_core.specs.declared.event.Event.TheVariants.{Submit, Look, Open}
use Rattle.master_core.specs.History.{AllAfter, IsRight, is_open, next_of, placed_of}
use Rattle.kept_run.proofs.Shared.{next_of-push, second_identifiers}
use Rattle.bus_trace.specs.EventRows.{BeginsCycle, rows_at, rows_of_event, width_told_in}
use Rattle.bus_trace.specs.Log.{event_rows, events_rows, started_in, trigger_count_with, triggers_in}
use Rattle.bus_trace.proofs.Shared.{events_rows-push, started_in-later, starts-elsewhere, trigger_count_with-le, trigger_count_with-trigger}

-- Counting triggers

counted-other : (seen : ℕ) (sent : TimedFrame) → sent.frame.identifier ≢ 0 → trigger_count_with seen sent ≡ seen
counted-other seen sent other = cond-false (eqb sent.frame.identifier 0) (seen + 1) seen (ne_eqb _ _ other)

pub triggers-all-up : (seen : ℕ) (frames : List TimedFrame) → seen ≤ fold trigger_count_with seen frames
triggers-all-up seen [] = omega arith
triggers-all-up seen (sent ∷ later) =
    let now = trigger_count_with-le seen sent in
    let more = triggers-all-up (trigger_count_with seen sent) later in
    omega arith

-- frames none of which is a trigger
counted-none : (seen : ℕ) (frames : List TimedFrame) → All (λ sent. sent.frame.identifier ≢ 0) frames → fold trigger_count_with seen frames ≡ seen
counted-none seen [] none = refl
counted-none seen (sent ∷ later) none =
    ap (λ n. fold trigger_count_with n later) (counted-other seen sent (All-head (λ s. s.frame.identifier ≢ 0) sent later none))
    ∙ counted-none seen later (All-tail (λ s. s.frame.identifier ≢ 0) sent later none)

-- the frames of a cycle hold one trigger
pub triggers-more : (trace : List TimedFrame) (sent : TimedFrame) (later : List TimedFrame) → sent.frame.identifier ≡ 0
    → All (λ s. s.frame.identifier ≢ 0) later → triggers_in (trace ++ sent ∷ later) ≡ triggers_in trace + 1
triggers-more trace sent later is others =
    fold-append trigger_count_with 0 trace (sent ∷ later)
    ∙ ap (λ n. fold trigger_count_with n later) (trigger_count_with-trigger (triggers_in trace) sent is)
    ∙ counted-none (triggers_in trace + 1) later others

-- The frames that start in a cycle

here : (cycle seen : ℕ) (sent : TimedFrame) (rest : List TimedFrame) → seen ≡ cycle + 1 → cond (eqb seen (cycle + 1)) (sent ∷ []) [] ++ rest ≡ sent ∷ rest
here cycle seen sent rest is = ap (λ l. l ++ rest) (cond-true (eqb seen (cycle + 1)) (sent ∷ []) [] (eq-eqb _ _ is))

started-append : (cycle seen : ℕ) (first second : List TimedFrame)
    → started_in cycle seen (first ++ second) ≡ started_in cycle seen first ++ started_in cycle (fold trigger_count_with seen first) second
started-append cycle seen [] second = refl
started-append cycle seen (sent ∷ later) second =
    let now = trigger_count_with seen sent in
    ap (λ l. cond (eqb now (cycle + 1)) (sent ∷ []) [] ++ l) (started-append cycle now later second)
    ∙ sym (append_assoc (cond (eqb now (cycle + 1)) (sent ∷ []) []) (started_in cycle now later) (started_in cycle (fold trigger_count_with now later) second))

-- none before the cycle's own trigger
started-before : (cycle seen : ℕ) (frames : List TimedFrame) → fold trigger_count_with seen frames ≤ cycle → started_in cycle seen frames ≡ []
started-before cycle seen [] few = refl
started-before cycle seen (sent ∷ later) few =
    let up = triggers-all-up (trigger_count_with seen sent) later in
    starts-elsewhere cycle (trigger_count_with seen sent) sent _ (λ is. omega arith) ∙ started-before cycle (trigger_count_with seen sent) later few

-- all behind it, up to the next one
started-rest : (cycle : ℕ) (frames : List TimedFrame) → All (λ s. s.frame.identifier ≢ 0) frames → started_in cycle (cycle + 1) frames ≡ frames
started-rest cycle [] none = refl
started-rest cycle (sent ∷ later) none =
    let same = counted-other (cycle + 1) sent (All-head (λ s. s.frame.identifier ≢ 0) sent later none) in
    ap (λ n. cond (eqb n (cycle + 1)) (sent ∷ []) [] ++ started_in cycle n later) same
    ∙ here cycle (cycle + 1) sent _ refl
    ∙ ap (λ l. sent ∷ l) (started-rest cycle later (All-tail (λ s. s.frame.identifier ≢ 0) sent later none))

-- the frames of the next cycle are those behind the trace
started-next : (trace : List TimedFrame) (cycle : ℕ) (sent : TimedFrame) (later : List TimedFrame) → triggers_in trace ≡ cycle → sent.frame.identifier ≡ 0
    → All (λ s. s.frame.identifier ≢ 0) later → started_in cycle 0 (trace ++ sent ∷ later) ≡ sent ∷ later
started-next trace cycle sent later so_far trigger others =
    started-append cycle 0 trace (sent ∷ later)
    ∙ ap (λ l. l ++ started_in cycle (triggers_in trace) (sent ∷ later)) (started-before cycle 0 trace (omega arith))
    ∙ ap (λ n. started_in cycle n (sent ∷ later)) so_far
    ∙ ap (λ n. cond (eqb n (cycle + 1)) (sent ∷ []) [] ++ started_in cycle n later) (trigger_count_with-trigger cycle sent trigger)
    ∙ here cycle (cycle + 1) sent _ refl
    ∙ ap (λ l. sent ∷ l) (started-rest cycle later others)

-- The rows

next-cons : (event : Event) (later : List Event) → next_of (event ∷ later) ≡ cond (is_open event) 1 0 + next_of later
next-cons event later = sum_by-cons (λ e. cond (is_open e) 1 0) event later

event-stays : (rules : Rules) (trace : List TimedFrame) (sent : TimedFrame) (later : List TimedFrame) (before : List Event) (event : Event)
    → sent.frame.identifier ≡ 0 → IsRight rules before event → next_of before + cond (is_open event) 1 0 ≤ triggers_in trace
    → event_rows (trace ++ sent ∷ later) before event ≡ event_rows trace before event
event-stays rules trace sent later before (Submit caller change from verdict trail) trigger right few = refl
event-stays rules trace sent later before (Look caller next) trigger right few = refl
event-stays rules trace sent later before (Open cycle mask) trigger right few =
    let now : cycle ≡ next_of before = right.0 in
    let same : started_in cycle 0 (trace ++ sent ∷ later) ≡ started_in cycle 0 trace =
    started-append cycle 0 trace (sent ∷ later)
    ∙ ap (λ l. started_in cycle 0 trace ++ l) (started_in-later cycle (triggers_in trace) (sent ∷ later) trigger (omega arith))
    ∙ append-nil (started_in cycle 0 trace) in
    ap (λ l. rows_at (width_of (record { cycle = cycle; mask = mask; placed = placed_of before })) (Open cycle mask) l) same

-- frames of a later cycle change no rows before it
pub rows-stay : (rules : Rules) (trace : List TimedFrame) (sent : TimedFrame) (later : List TimedFrame) (before events : List Event)
    → sent.frame.identifier ≡ 0 → AllAfter (IsRight rules) before events → next_of before + next_of events ≤ triggers_in trace
    → events_rows (trace ++ sent ∷ later) before events ≡ events_rows trace before events
rows-stay rules trace sent later before [] trigger right few = refl
rows-stay rules trace sent later before (event ∷ events) trigger right few =
    let first = next-cons event events in
    let more = next_of-push before event in
    let one = event-stays rules trace sent later before event trigger right.0 (omega arith) in
    ap (λ l. l ++ events_rows (trace ++ sent ∷ later) (before ++ event ∷ []) events) one
    ∙ ap (λ l. event_rows trace before event ++ l) (rows-stay rules trace sent later (before ++ event ∷ []) events trigger right.1 (omega arith))

-- a cycle that is opened and run adds the rows of its event
pub opened-rows : (rules : Rules) (trace : List TimedFrame) (sent : TimedFrame) (later : List TimedFrame) (history : List Event) (cycle mask : ℕ)
    → AllAfter (IsRight rules) [] history → triggers_in trace ≡ next_of history → cycle ≡ next_of history → sent.frame.identifier ≡ 0
    → All (λ s. s.frame.identifier ≢ 0) later
    → width_told_in (sent ∷ later) ≡ width_of (record { cycle = cycle; mask = mask; placed = placed_of history })
    → events_rows (trace ++ sent ∷ later) [] (history ++ Open cycle mask ∷ []) ≡ events_rows trace [] history ++ rows_of_event (Open cycle mask) (sent ∷ later)
opened-rows rules trace sent later history cycle mask legal so_far now trigger others width =
    let frames : List TimedFrame = sent ∷ later in
    let started = started-next trace cycle sent later (so_far ∙ sym now) trigger others in
    events_rows-push (trace ++ frames) [] history (Open cycle mask)
    ∙ ap (λ l. l ++ event_rows (trace ++ frames) history (Open cycle mask)) (rows-stay rules trace sent later [] history trigger legal (omega arith))
    ∙ ap (λ l. events_rows trace [] history ++ rows_at (width_of (record { cycle = cycle; mask = mask; placed = placed_of history })) (Open cycle mask) l) started
    ∙ ap (λ w. events_rows trace [] history ++ rows_at w (Open cycle mask) frames) (sym width)

-- a change or a look adds its own
pub called-rows : (trace : List TimedFrame) (history : List Event) (event : Event) → is_open event ≡ false
    → events_rows trace [] (history ++ event ∷ []) ≡ events_rows trace [] history ++ rows_of_event event []
called-rows trace history (Submit caller change from verdict trail) closed = events_rows-push trace [] history (Submit caller change from verdict trail)
called-rows trace history (Look caller next) closed = events_rows-push trace [] history (Look caller next)
called-rows trace history (Open cycle mask) closed = absurd (cc)

-- The frames of an opened cycle

pub not-first : (layout : CycleLayout) (opening : Opening) (sent : TimedFrame) → IsRequestFrame layout opening sent ⊎ IsSlotFrame layout opening sent
    → sent.frame.identifier ≢ 0
not-first layout opening sent (inl request) = λ is. let above = request.identifier in omega arith
not-first layout opening sent (inr slot) = λ is. let id = slot.identifier in omega arith

pub width-told : (cycle l mask : ℕ) → width_told (trigger_bytes cycle l mask) ≡ l
width-told cycle l mask = omega arith

-- they begin with the cycle's first trigger frame, and no other has its identifier
pub begins-cycle : {sends : Instance → List ℕ} (layout : CycleLayout) (opening : Opening) (frames : List TimedFrame) → IsLayout layout
    → FitsWindow layout opening → RunsCycle sends layout opening frames → BeginsCycle opening.cycle opening.mask frames
begins-cycle layout opening frames known fits run =
    let within = fits.width in
    let range = known.window_range.below in
    record {
      trigger = run.trigger;
      later = run.second ++ run.later;
      frames_are = run.all_frames;
      width = width_of opening;
      wide = omega arith;
      says = run.is_trigger;
      others = All-append (λ sent. sent.frame.identifier ≢ 0) run.second run.later
          (λ k d within none. let one = second_identifiers layout opening frames run k d within in omega arith)
          (λ k d within. not-first layout opening (get_or run.later k d) (run.all k d within));
    }

-- that frame says the length of the synchronous window
pub says-its_width : {sends : Instance → List ℕ} (layout : CycleLayout) (opening : Opening) (frames : List TimedFrame)
    → RunsCycle sends layout opening frames → width_told_in frames ≡ width_of opening
says-its_width layout opening frames run =
    ap width_told_in run.all_frames ∙ ap (λ f. width_told f.bytes) run.is_trigger ∙ width-told opening.cycle (width_of opening) opening.mask

-- so they bring their rows behind those of the trace
pub opened-more : (rules : Rules) (trace frames : List TimedFrame) (history : List Event) (cycle mask : ℕ)
    → AllAfter (IsRight rules) [] history → triggers_in trace ≡ next_of history → cycle ≡ next_of history → BeginsCycle cycle mask frames
    → width_told_in frames ≡ width_of (record { cycle = cycle; mask = mask; placed = placed_of history })
    → events_rows (trace ++ frames) [] (history ++ Open cycle mask ∷ []) ≡ events_rows trace [] history ++ rows_of_event (Open cycle mask) frames
opened-more rules trace frames history cycle mask legal so_far now begins width =
    let first : begins.trigger.frame.identifier ≡ 0 = ap (λ f. f.identifier) begins.says in
    subst (λ l. events_rows (trace ++ l) [] (history ++ Open cycle mask ∷ []) ≡ events_rows trace [] history ++ rows_of_event (Open cycle mask) l) (sym begins.frames_are)
    (opened-rows rules trace begins.trigger begins.later history cycle mask legal so_far now first begins.others (ap width_told_in (sym begins.frames_are) ∙ width))

pub opened-counted : (trace frames : List TimedFrame) (cycle mask : ℕ) → BeginsCycle cycle mask frames → triggers_in (trace ++ frames) ≡ triggers_in trace + 1
opened-counted trace frames cycle mask begins =
    ap (λ l. triggers_in (trace ++ l)) begins.frames_are
    ∙ triggers-more trace begins.trigger begins.later (ap (λ f. f.identifier) begins.says) begins.others
