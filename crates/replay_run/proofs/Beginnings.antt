-- What begins a legal history is legal, and what is opened behind it are cycles from the next one on. So a run of the
-- first calls of steps begins the run of all calls.
use Rattle.std.proofs.Common.{◌≡◌, ℕ, ◌+◌, ◌*◌, ◌<◌, ◌≤◌, List, [], ◌∷◌, ◌++◌, All, cond, sym, ap, ◌∙◌, subst, arith, append_assoc}
use Rattle.std.proofs.lemmas.List.Elements.{All-append, All-cons, All-nil, All-weaker}
use Rattle.std.proofs.lemmas.List.Sums.{sum_by-append, sum_by-cons}
use Rattle.can_frame.specs.declared.data_frame.TimedFrame.{TimedFrame}
use Rattle.cycle_layout.specs.Layout.{CycleLayout, IsLayout}
use Rattle.requirement_table.specs.Instance.{Instance, bytes_of}
use Rattle.requirement_table.specs.Opening.{Opening}
use Rattle.admission_rules.specs.declared.Rules.{Rules}
use Rattle.master_core.specs.declared.event.Event.{Event}
use Rattle.master_core.specs.declared.event.Event.TheVariants.{Submit, Look, Open}
use Rattle.master_core.specs.History.{AllAfter, IsLegal, IsRight, is_open, next_of}
use Rattle.master_core.specs.Openings.{opening_of, openings_after, openings_of}
use Rattle.async_window.specs.declared.request.Request.{Request}
use Rattle.bus_line.specs.Trace.{started_before}
use Rattle.cycle_engine.specs.Offered.{IsCanTrace}
use Rattle.kept_run.proofs.Shared.{AllAfter-parts}
use Rattle.system_file.specs.SystemFile.{IsSystem}
use Rattle.steps_file.specs.declared.steps.Step.{Step}
use Rattle.system_file.specs.declared.system.System.{System}
use Rattle.replay_run.specs.Begun.{IsRunBegun}
use Rattle.replay_run.specs.Run.{IsRun}
use Rattle.replay_run.proofs.Fronts.{cut-at, front-can_trace}
use Rattle.replay_run.proofs.Openings.{openings_of-append}
use Rattle.master_core.proofs.Shared.{OneVerdict, first-history}

pub next_of-append : (events later : List Event) → next_of (events ++ later) ≡ next_of events + next_of later
next_of-append events later = sum_by-append (λ e. cond (is_open e) 1 0) events later

pub next_of-cons : (event : Event) (later : List Event)
    → next_of (event ∷ later) ≡ cond (is_open event) 1 0 + next_of later
next_of-cons event later = sum_by-cons (λ e. cond (is_open e) 1 0) event later

-- the number of the opening lies between these
abbrev IsBetween : ℕ → ℕ → Opening → Type 0
IsBetween low high o = (low ≤ o.cycle) × (o.cycle < high)

opening-between : (rules : Rules) (before : List Event) (event : Event) (high : ℕ) → IsRight rules before event
    → next_of before + cond (is_open event) 1 0 ≤ high → All (IsBetween (next_of before) high) (opening_of before event)
opening-between rules before (Submit caller change from verdict trail) high right below = All-nil (IsBetween (next_of before) high)
opening-between rules before (Look caller next) high right below = All-nil (IsBetween (next_of before) high)
opening-between rules before (Open cycle mask) high right below =
    let now = right.0 in
    All-cons (IsBetween (next_of before) high) (record { cycle = cycle; mask = mask; placed = _ }) [] (omega arith, omega arith) (All-nil (IsBetween (next_of before) high))

-- right events open cycles from the next one on, and below the next one behind them
pub cycles-between : (rules : Rules) (before events : List Event) → AllAfter (IsRight rules) before events
    → All (IsBetween (next_of before) (next_of (before ++ events))) (openings_after before events)
cycles-between rules before [] right = All-nil (IsBetween (next_of before) (next_of (before ++ [])))
cycles-between rules before (event ∷ events) right =
    let low : ℕ = next_of before in
    let high : ℕ = next_of (before ++ event ∷ events) in
    let whole : high ≡ low + next_of (event ∷ events) = next_of-append before (event ∷ events) in
    let parts : next_of (event ∷ events) ≡ cond (is_open event) 1 0 + next_of events = next_of-cons event events in
    let one : next_of (before ++ event ∷ []) ≡ low + next_of (event ∷ []) = next_of-append before (event ∷ []) in
    let same : (before ++ event ∷ []) ++ events ≡ before ++ event ∷ events = append_assoc before (event ∷ []) events in
    let rest = subst (λ h. All (IsBetween (next_of (before ++ event ∷ [])) (next_of h)) (openings_after (before ++ event ∷ []) events)) same
    (cycles-between rules (before ++ event ∷ []) events right.1) in
    All-append (IsBetween low high) (opening_of before event) (openings_after (before ++ event ∷ []) events)
    (opening-between rules before event high right.0 (omega arith))
    (All-weaker (IsBetween (next_of (before ++ event ∷ [])) high) (IsBetween low high) (λ o is. (omega (arith, is.0), is.1)) (openings_after (before ++ event ∷ []) events) rest)

-- The trace

module _ (sends : Instance → List ℕ) (layout : CycleLayout) (known : IsLayout layout) (requests : List Request) (rules : Rules) where
  -- the trace of the opened cycles of a history
  abbrev IsTraceOf : List Event → List TimedFrame → Type 0
  IsTraceOf history trace = IsCanTrace sends layout requests (openings_of history) (next_of history) trace

  -- what the trace of a legal history sends in the cycles that a front of the history opens is the trace of that front
  pub front-trace : (history later : List Event) (trace : List TimedFrame) → IsLegal rules (history ++ later)
      → IsTraceOf (history ++ later) trace
      → IsTraceOf history (started_before (next_of history * layout.cycle) trace)
  front-trace history later trace legal is =
      let parts = AllAfter-parts (IsRight rules) [] history later legal in
      let between = cycles-between rules history later parts.1 in
      let count : next_of (history ++ later) ≡ next_of history + next_of later = next_of-append history later in
      front-can_trace sends layout known requests (openings_of history) (openings_after history later) (next_of history)
      (λ k d within. (between k d within).0) (next_of (history ++ later)) trace (omega arith)
      (subst (λ os. IsCanTrace sends layout requests os (next_of (history ++ later)) trace) (openings_of-append history later) is)

-- The run of the first calls of steps

-- its history begins that of the run of all calls
pub begun-history : OneVerdict
    → (system : System) (steps : List Step) (requests : List Request) (history whole : List Event) (trace frames : List TimedFrame)
    → IsRunBegun system steps requests history trace → IsRun system steps requests whole frames
    → (rest : List Event) × (whole ≡ history ++ rest)
begun-history verdicts system steps requests history whole trace frames begun run =
    first-history verdicts system.rules history whole begun.later (begun.answers ∙ sym run.answers) begun.plain run.plain

-- and its trace begins that of the run of all calls, whose other frames start behind the cycles that it opens
pub begun-trace : OneVerdict
    → (system : System) (steps : List Step) (requests : List Request) (history whole : List Event) (trace frames : List TimedFrame)
    → IsSystem system → IsRunBegun system steps requests history trace → IsRun system steps requests whole frames
    → (rest : List TimedFrame) × (frames ≡ trace ++ rest) × All (λ sent. next_of history * system.layout.cycle ≤ sent.start) rest
begun-trace verdicts system steps requests history whole trace frames is begun run =
    let (rest, all) = begun-history verdicts system steps requests history whole trace frames begun run in
    let legal : IsLegal system.rules (history ++ rest) = subst (IsLegal system.rules) all run.plain.legal in
    let trace_of : IsTraceOf bytes_of system.layout is.layout requests system.rules (history ++ rest) frames =
    subst (λ h. IsCanTrace bytes_of system.layout requests (openings_of h) (next_of h) frames) all run.kept.can_trace in
    let front = front-trace bytes_of system.layout is.layout requests system.rules history rest frames legal trace_of in
    let until : ℕ = next_of history * system.layout.cycle in
    let same : started_before until frames ≡ trace = begun.kept.only_trace (started_before until frames) front in
    let cut = cut-at until frames run.kept.can_trace.ordered.apart in
    (cut.later, cut.all ∙ ap (λ l. l ++ cut.later) same, cut.after)
