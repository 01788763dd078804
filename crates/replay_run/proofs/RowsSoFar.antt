-- The rows of a run under way begin the log of a run that has its events first, whatever bytes an instance sends. So the
-- rows of a run of the first calls of steps begin the log of the run of all of them.
use Rattle.std.proofs.Common.{◌≡◌, ℕ, zero, suc, ◌+◌, ◌*◌, ◌<◌, ◌≤◌, ◌⊎◌, List, [], ◌∷◌, ◌++◌, length, get_or, fold, map, All, AllPairs, Contains, eqb, refl, sym, ap, ◌∙◌, subst, arith, inl, inr, append_assoc, zero-add}
use Rattle.std.specs.Prelude.{nat_lt}
use Rattle.std.specs.List.{range_with_len}
use Rattle.std.proofs.Math.Nat.{mul-le-mul_right}
use Rattle.std.proofs.lemmas.Bool.{cases_lt, lt-ltb}
use Rattle.std.proofs.lemmas.List.{append-nil, get_or-map, length-map}
use Rattle.std.proofs.lemmas.List.Elements.{All-contains, All-contains_itself, All-filter, All-head, Contains-append_cases, Contains-append_right, Contains-get_or}
use Rattle.std.proofs.lemmas.List.FromFn.{get_or-range_with_len, length-range_with_len}
use Rattle.std.proofs.lemmas.List.Kept.{AllPairs-filter}
use Rattle.std.proofs.lemmas.List.Sums.{fold-append}
use Rattle.can_frame.specs.DataFrame.{DataFrame}
use Rattle.can_frame.specs.Wire.{wire_length}
use Rattle.can_frame.specs.declared.data_frame.TimedFrame.{TimedFrame}
use Rattle.requirement_table.specs.Opening.{Opening}
use Rattle.bus_line.specs.Trace.{end_of, started_before}
use Rattle.admission_rules.specs.declared.Rules.{Rules}
use Rattle.master_core.specs.declared.event.Event.{Event}
use Rattle.master_core.specs.History.{IsLegal, next_of}
use Rattle.master_core.specs.Openings.{openings_of}
use Rattle.cycle_engine.specs.Cycle.{RunsCycle, cycle_of, frames_in}
use Rattle.async_window.specs.declared.request.Request.{Request}
use Rattle.requests_file.specs.RequestsFile.{AreLegal}
use Rattle.system_file.specs.SystemFile.{IsSystem}
use Rattle.steps_file.specs.declared.steps.Step.{Step}
use Rattle.system_file.specs.declared.system.System.{System}
use Rattle.kept_run.specs.Kept.{Kept}
use Rattle.kept_run.specs.Progress.{IsUnderWay}
use Rattle.kept_run.specs.Setting.{Setting}
use Rattle.bus_trace.specs.Log.{end_row, events_rows, log_text, trigger_count_with, triggers_in}
use Rattle.replay_run.specs.Begun.{IsRunBegun}
use Rattle.replay_run.specs.Run.{IsRun, setting_of}
use Rattle.kept_run.proofs.Shared.{Contains-filter}
use Rattle.replay_run.proofs.Shared.{cut-at, started-all, started-early, started-within}
use Rattle.bus_trace.proofs.Shared.{events_rows-append, trigger_count_with-trigger}
use Rattle.replay_run.proofs.EventRows.{rows-stay, triggers-all-up}

-- legal histories open the cycles from 0 on, in their order
pub record OpensCycles : Type 0 where
  pub cycles : (rules : Rules) (history : List Event) → IsLegal rules history
      → map (λ o. o.cycle) (openings_of history) ≡ range_with_len 0 (next_of history)

-- each frame takes some time on the bus
abbrev pub TakesTime : Type 0
TakesTime = (frame : DataFrame) → 0 < wire_length frame

-- the opening of a cycle that was opened
record IsOpened (openings : List Opening) (cycle : ℕ) : Type 0 where
  opening : Opening
  among : Contains openings opening
  is : opening.cycle ≡ cycle

opened-at : (openings : List Opening) (n cycle : ℕ) → map (λ o. o.cycle) openings ≡ range_with_len 0 n → cycle < n
    → IsOpened openings cycle
opened-at openings n cycle in_order early =
    let none : Opening = record { cycle = 0; mask = 0; placed = [] } in
    let number : Opening → ℕ = λ o. o.cycle in
    let count : length openings ≡ n =
    sym (length-map openings number) ∙ ap length in_order ∙ length-range_with_len 0 n in
    record {
      opening = get_or openings cycle none;
      among = Contains-get_or openings cycle none (omega arith);
      is = sym (get_or-map number openings cycle none (number none) (omega arith)) ∙ ap (λ l. get_or l cycle (number none)) in_order
          ∙ get_or-range_with_len 0 n cycle (number none) early ∙ zero-add cycle;
    }

-- the trigger of a cycle, in a trace
record HasTrigger (setting : Setting) (trace : List TimedFrame) (cycle : ℕ) : Type 0 where
  sent : TimedFrame
  among : Contains trace sent
  starts : sent.start ≡ cycle * setting.layout.cycle
  is_trigger : sent.frame.identifier ≡ 0

-- each opened cycle of a run under way has its trigger
has-trigger : OpensCycles → (setting : Setting) (history : List Event) (trace : List TimedFrame)
    → IsUnderWay setting history trace
    → (cycle : ℕ) → cycle < next_of history → HasTrigger setting trace cycle
has-trigger opens setting history trace way cycle early =
    let opened = opened-at (openings_of history) (next_of history) cycle (opens.cycles setting.rules history way.legal) early in
    let runs = All-contains (λ o. RunsCycle setting.sends setting.layout o (frames_in setting.layout o.cycle trace)) (openings_of history) opened.opening way.cycles opened.among in
    let here : List TimedFrame = frames_in setting.layout opened.opening.cycle trace in
    let first : Contains here runs.trigger =
    subst (λ l. Contains l runs.trigger) (sym runs.all_frames) (0, omega arith, refl) in
    let all : All (Contains trace) here =
    All-filter (λ sent. eqb (cycle_of setting.layout sent) opened.opening.cycle) (Contains trace) trace (All-contains_itself trace) in
    record {
      sent = runs.trigger;
      among = All-contains (Contains trace) here runs.trigger all first;
      starts = runs.starts ∙ ap (λ c. c * setting.layout.cycle) opened.is;
      is_trigger = ap (λ f. f.identifier) runs.is_trigger;
    }

-- How many triggers there are

counted-among : (seen : ℕ) (frames : List TimedFrame) (sent : TimedFrame) → Contains frames sent
    → sent.frame.identifier ≡ 0
    → seen + 1 ≤ fold trigger_count_with seen frames
counted-among seen [] sent (k, within, is) trigger = absurd (omega arith)
counted-among seen (x ∷ later) sent (zero, within, is) trigger =
    let now = trigger_count_with-trigger seen x (ap (λ s. s.frame.identifier) is ∙ trigger) in
    let more = triggers-all-up (trigger_count_with seen x) later in
    omega arith
counted-among seen (x ∷ later) sent (suc k, within, is) trigger =
    let now = triggers-all-up seen (x ∷ []) in
    let more = counted-among (trigger_count_with seen x) later sent (k, omega arith, is) trigger in
    omega arith

-- before the start of a cycle at least as many triggers start as there are cycles below it
triggers-below : (setting : Setting) (trace : List TimedFrame)
    → AllPairs (λ earlier later. end_of earlier ≤ later.start) trace → 0 < setting.layout.cycle
    → (n : ℕ) → ((c : ℕ) → c < n → HasTrigger setting trace c)
    → n ≤ triggers_in (started_before (n * setting.layout.cycle) trace)
triggers-below setting trace apart some zero each = omega arith
triggers-below setting trace apart some (suc n) each =
    let low : ℕ = n * setting.layout.cycle in
    let high : ℕ = suc n * setting.layout.cycle in
    let longer : high ≡ low + setting.layout.cycle = omega arith in
    let before : List TimedFrame = started_before low trace in
    let front : List TimedFrame = started_before high trace in
    let cut = cut-at low front (AllPairs-filter (λ earlier later. end_of earlier ≤ later.start) (λ sent. nat_lt sent.start high) trace apart) in
    let all : front ≡ before ++ cut.later =
    cut.all ∙ ap (λ l. l ++ cut.later) (started-within low high trace (omega arith)) in
    let so_far = triggers-below setting trace apart some n (λ c early. each c (omega arith)) in
    let has = each n (omega arith) in
    let early : has.sent.start < high = omega (arith, has.starts) in
    let among : Contains front has.sent =
    Contains-filter (λ sent. nat_lt sent.start high) trace has.sent has.among (lt-ltb has.sent.start high early) in
    let last : Contains cut.later has.sent = elim (Contains-append_cases before cut.later has.sent (subst (λ l. Contains l has.sent) all among)) [
      | inl sooner ↦ absurd (omega (arith, has.starts, All-contains (λ s. s.start < low) before has.sent (started-early low trace) sooner))
      | inr later ↦ later
    ] in
    let count : triggers_in front ≡ fold trigger_count_with (triggers_in before) cut.later =
    ap triggers_in all ∙ fold-append trigger_count_with 0 before cut.later in
    let more = counted-among (triggers_in before) cut.later has.sent last has.is_trigger in
    omega arith

-- a run under way has at least as many triggers as it has opened cycles
triggers-enough : OpensCycles → (setting : Setting) (history : List Event) (trace : List TimedFrame)
    → 0 < setting.layout.cycle → IsUnderWay setting history trace
    → next_of history ≤ triggers_in trace
triggers-enough opens setting history trace some way =
    let n : ℕ = next_of history in
    let below = triggers-below setting trace way.can_trace.ordered.apart some n (has-trigger opens setting history trace way) in
    subst (λ l. n ≤ triggers_in l) (started-all (n * setting.layout.cycle) trace way.can_trace.within) below

-- The first frame behind a front of a trace

Contains-cases : (x : TimedFrame) (xs : List TimedFrame) (y : TimedFrame) → Contains (x ∷ xs) y
    → (x ≡ y) ⊎ Contains xs y
Contains-cases x xs y (zero, within, is) = inl is
Contains-cases x xs y (suc k, within, is) = inr (k, omega arith, is)

apart-behind : (front : List TimedFrame) (sent : TimedFrame) (later : List TimedFrame)
    → AllPairs (λ one other. end_of one ≤ other.start) (front ++ sent ∷ later)
    → All (λ s. end_of sent ≤ s.start) later
apart-behind [] sent later apart = λ k d within. apart 0 (suc k) d (omega arith) (omega arith)
apart-behind (x ∷ front) sent later apart =
    apart-behind front sent later (λ i j d before within. apart (suc i) (suc j) d (omega arith) (omega arith))

-- the first frame that starts behind the cycles below one is the trigger of that cycle
first-behind : OpensCycles → TakesTime
    → (setting : Setting) (whole : List Event) (frames trace : List TimedFrame) (sent : TimedFrame) (later : List TimedFrame) (n : ℕ)
    → IsUnderWay setting whole frames → frames ≡ trace ++ sent ∷ later
    → All (λ s. s.start < n * setting.layout.cycle) trace
    → n * setting.layout.cycle ≤ sent.start → sent.frame.identifier ≡ 0
first-behind opens positive setting whole frames trace sent later n way all early late =
    let start : ℕ = n * setting.layout.cycle in
    let many : ℕ = next_of whole in
    let place : Contains frames sent =
    subst (λ l. Contains l sent) (sym all) (Contains-append_right trace (sent ∷ later) sent (0, omega arith, refl)) in
    let ends : sent.start < many * setting.layout.cycle =
    All-contains (λ s. s.start < many * setting.layout.cycle) frames sent way.can_trace.within place in
    let opened : n < many = elim (cases_lt n many) [
      | inl is ↦ is
      | inr few ↦ absurd (let less : many * setting.layout.cycle ≤ start = mul-le-mul_right setting.layout.cycle few in omega arith)
    ] in
    let has = has-trigger opens setting whole frames way n opened in
    let starts = has.starts in
    elim (Contains-append_cases trace (sent ∷ later) has.sent (subst (λ l. Contains l has.sent) all has.among)) [
      | inl sooner ↦ absurd (omega (arith, starts, All-contains (λ s. s.start < start) trace has.sent early sooner))
      | inr among ↦ elim (Contains-cases sent later has.sent among) [
        | inl is ↦ ap (λ s. s.frame.identifier) is ∙ has.is_trigger
        | inr behind_it ↦
            let whole_len = All-contains (λ s. s.len ≡ wire_length s.frame) frames sent way.can_trace.ordered.lengths place in
            let after = apart-behind trace sent later (subst (AllPairs (λ one other. end_of one ≤ other.start)) all way.can_trace.ordered.apart) in
            let behind = All-contains (λ s. end_of sent ≤ s.start) later has.sent after behind_it in
            absurd (omega (arith, whole_len, positive sent.frame, behind, starts, late))
      ]
    ]

-- Rows

-- frames behind the cycles that a history opens change none of its rows
rows-kept : OpensCycles → TakesTime
    → (setting : Setting) (history whole : List Event) (trace frames later : List TimedFrame) → 0 < setting.layout.cycle
    → IsUnderWay setting history trace → IsUnderWay setting whole frames → frames ≡ trace ++ later
    → All (λ sent. next_of history * setting.layout.cycle ≤ sent.start) later
    → events_rows frames [] history ≡ events_rows trace [] history
rows-kept opens positive setting history whole trace frames [] some way all_way is after =
    ap (λ l. events_rows l [] history) (is ∙ append-nil trace)
rows-kept opens positive setting history whole trace frames (sent ∷ later) some way all_way is after =
    let late = All-head (λ s. next_of history * setting.layout.cycle ≤ s.start) sent later after in
    let trigger = first-behind opens positive setting whole frames trace sent later (next_of history) all_way is way.can_trace.within late in
    let enough = triggers-enough opens setting history trace some way in
    ap (λ l. events_rows l [] history) is ∙ rows-stay setting.rules trace sent later [] history trigger way.legal (omega arith)

-- so the rows of a run under way begin the log of one that has its events first, and its frames
pub rows-front : OpensCycles → TakesTime
    → (setting : Setting) (history later : List Event) (trace frames rest : List TimedFrame)
    → 0 < setting.layout.cycle
    → IsUnderWay setting history trace → IsUnderWay setting (history ++ later) frames → frames ≡ trace ++ rest
    → All (λ sent. next_of history * setting.layout.cycle ≤ sent.start) rest
    → (rows : List ℕ) × (log_text (history ++ later) frames ≡ events_rows trace [] history ++ rows)
rows-front opens positive setting history later trace frames rest some way all_way is after =
    let whole : List Event = history ++ later in
    let more : List ℕ = events_rows frames history later in
    let same = rows-kept opens positive setting history whole trace frames rest some way all_way is after in
    let rows : events_rows frames [] whole ≡ events_rows trace [] history ++ more =
    events_rows-append frames [] history later ∙ ap (λ l. l ++ more) same in (
      more ++ end_row (next_of whole),
      ap (λ l. l ++ end_row (next_of whole)) rows ∙ append_assoc (events_rows trace [] history) more (end_row (next_of whole)),
    )

-- what is known of runs, and of what begins them
pub record BeginningLaws : Type 0 where
  pub opens : OpensCycles
  pub positive : TakesTime
  pub history : (system : System) (steps : List Step) (requests : List Request) (history whole : List Event) (trace frames : List TimedFrame)
      → IsRunBegun system steps requests history trace → IsRun system steps requests whole frames
      → (rest : List Event) × (whole ≡ history ++ rest)
  pub trace : (system : System) (steps : List Step) (requests : List Request) (history whole : List Event) (trace frames : List TimedFrame)
      → IsSystem system → IsRunBegun system steps requests history trace → IsRun system steps requests whole frames
      → (rest : List TimedFrame) × (frames ≡ trace ++ rest) × All (λ sent. next_of history * system.layout.cycle ≤ sent.start) rest
  pub under_way : (system : System) (requests : List Request) (history : List Event) (trace : List TimedFrame)
      → IsSystem system
      → AreLegal system.owners requests → Kept (setting_of system requests) history trace
      → IsUnderWay (setting_of system requests) history trace

pub rows-begin : BeginningLaws
    → (system : System) (steps : List Step) (requests : List Request) (history whole : List Event) (trace frames : List TimedFrame)
    → IsSystem system → AreLegal system.owners requests → IsRunBegun system steps requests history trace
    → IsRun system steps requests whole frames
    → (rest : List ℕ) × (log_text whole frames ≡ events_rows trace [] history ++ rest)
rows-begin laws system steps requests history whole trace frames is are begun run =
    let setting : Setting = setting_of system requests in
    let (events, all) = laws.history system steps requests history whole trace frames begun run in
    let (later, all_frames, after) = laws.trace system steps requests history whole trace frames is begun run in
    let way = laws.under_way system requests history trace is are begun.kept in
    let all_way = subst (λ h. IsUnderWay setting h frames) all (laws.under_way system requests whole frames is are run.kept) in
    let some : 0 < system.layout.cycle = omega (arith, is.layout.cycle_range.above) in
    subst (λ h. (rest : List ℕ) × (log_text h frames ≡ events_rows trace [] history ++ rest)) (sym all)
    (rows-front laws.opens laws.positive setting history events trace frames later some way all_way all_frames after)
