-- The first rows of a whole log are those of the run of its first events.
use Rattle.std.proofs.Common.{◌≡◌, ◌*◌, ◌<◌, ◌≤◌, ◌++◌, ℕ, zero, suc, true, List, [], ◌∷◌, drop, filter, length, map, take, refl, sym, ap, ◌∙◌, subst, arith, inl, inr, append_assoc, append-nil}
use Rattle.std.proofs.lemmas.Bool.{cases_lt, cond-false, cond-true}
use Rattle.std.proofs.lemmas.List.{length-append, take-append-drop}
use Rattle.std.proofs.lemmas.List.Elements.{All-head, All-tail, filter-append}
use Rattle.can_frame.specs.declared.data_frame.TimedFrame.{TimedFrame}
use Rattle.async_window.specs.declared.request.Request.{Request}
use Rattle.admission_rules.specs.declared.Rules.{Rules}
use Rattle.bus_line.specs.Trace.{started_before}
use Rattle.requirement_table.specs.Instance.{bytes_of}
use Rattle.master_core.specs.declared.event.Event.{Event}
use Rattle.master_core.specs.declared.event.Event.TheVariants.{Submit, Look, Open}
use Rattle.master_core.specs.History.{IsLegal, IsRight, next_of}
use Rattle.master_core.specs.Openings.{openings_of}
use Rattle.cycle_engine.specs.Offered.{IsCanTrace}
use Rattle.kept_run.specs.Setting.{IsSetting, Setting}
use Rattle.cycle_engine.proofs.Shared.{bytes_of-whole}
use Rattle.kept_run.proofs.Shared.{AllAfter-parts}
use Rattle.steps_file.specs.declared.steps.Step.{Step}
use Rattle.system_file.specs.declared.system.System.{System}
use Rattle.replay_run.specs.Run.{setting_of}
use Rattle.bus_trace.specs.Log.{started_in}
use Rattle.bus_trace.specs.LogRows.{event_told, events_told, log_rows, plan_told, verdict_told}
use Rattle.log_reader.specs.declared.row.LogRow.{LogRow}
use Rattle.log_reader.specs.declared.row.LogRow.TheVariants as row
use Rattle.trace_audit.specs.Audit.{AllStand, IsWholeLog}
use Rattle.trace_audit.specs.Auditing.{is_inner}
use Rattle.trace_audit.specs.Reading.{AreReadFrom, is_event_row}
use Rattle.trace_audit.proofs.Acts.{begins-acts}
use Rattle.trace_audit.proofs.Events.{AreInner, inner-frames, inner-no_event, inner-plan}
use Rattle.trace_audit.proofs.Rows.{TraceLaws, log-goes-on, next_of-append}
use Rattle.trace_audit.proofs.Whole.{take-front, take-whole}

-- Rows of events among the rows of events

pub no-event_row : (rows : List LogRow) → AreInner rows → filter is_event_row rows ≡ []
no-event_row [] inner = refl
no-event_row (line ∷ rows) inner =
    cond-false (is_event_row line) (line ∷ filter is_event_row rows) (filter is_event_row rows)
    (inner-no_event line (All-head (λ l. is_inner l ≡ true) line rows inner))
    ∙ no-event_row rows (All-tail (λ l. is_inner l ≡ true) line rows inner)

-- the rows of an event: first its own, which alone is that of an event
pub record BeginsEvent (rows : List LogRow) : Type 0 where
  pub head : LogRow
  pub rest : List LogRow
  pub are : rows ≡ head ∷ rest
  pub is_event : is_event_row head ≡ true
  pub one : length (filter is_event_row rows) ≡ 1

begins-event : (trace : List TimedFrame) (before : List Event) (event : Event) → BeginsEvent (event_told trace before event)
begins-event trace before event = grind (arith, no-event_row, inner-plan, inner-frames)

-- so there are as many of these rows as events
count-events : (trace : List TimedFrame) (before events : List Event)
    → length (filter is_event_row (events_told trace before events)) ≡ length events
count-events trace before [] = refl
count-events trace before (event ∷ events) =
    let told : List LogRow = event_told trace before event in
    let later : List LogRow = events_told trace (before ++ event ∷ []) events in
    let parts = ap length (filter-append is_event_row told later) in
    let sum = length-append (filter is_event_row told) (filter is_event_row later) in
    let one = (begins-event trace before event).one in
    let rest = count-events trace (before ++ event ∷ []) events in
    omega (arith, parts, sum, one, rest)

-- and one more where the row of an event stands behind them
count-more : (rows later : List LogRow) (head : LogRow) → is_event_row head ≡ true
    → length (filter is_event_row rows) < length (filter is_event_row (rows ++ head ∷ later))
count-more rows later head is = grind (arith, filter-append, length-append, cond-true)

-- The events of first rows

module _ (rules : Rules) (steps : List Step) where
  -- first events are read from first rows
  pub record ReadsFirst (before : List Event) (lines : List LogRow) (history : List Event) : Type 0 where
    pub front : List Event
    pub later : List Event
    pub is : history ≡ front ++ later
    pub read : AreReadFrom rules steps before lines front

  pub reads-first : (before : List Event) (lines more : List LogRow) (history : List Event)
      → AreReadFrom rules steps before (lines ++ more) history → ReadsFirst before lines history
  reads-first before [] more history all = record { front = []; later = history; is = refl; read = tt }
  reads-first before (line ∷ lines) more [] all = absurd all
  reads-first before (line ∷ lines) more (event ∷ events) all =
      let rest = reads-first (before ++ event ∷ []) lines more events all.1 in
      record { front = event ∷ rest.front; later = rest.later; is = ap (λ l. event ∷ l) rest.is; read = (all.0, rest.read) }

  -- one from each
  pub reads-count : (before : List Event) (lines : List LogRow) (history : List Event) → AreReadFrom rules steps before lines history
      → length lines ≡ length history
  reads-count before [] [] all = refl
  reads-count before [] (event ∷ events) all = absurd all
  reads-count before (line ∷ lines) [] all = absurd all
  reads-count before (line ∷ lines) (event ∷ events) all =
      let rest = reads-count (before ++ event ∷ []) lines events all.1 in omega (arith, rest)

-- more first elements than there are before one
take-over : {A : Type 0} (n : ℕ) (xs : List A) (x : A) (ys : List A) → length xs < n → (zs : List A) × (take n (xs ++ x ∷ ys) ≡ xs ++ x ∷ zs)
take-over zero xs x ys more = absurd (omega (arith, more))
take-over (suc n) [] x ys more = (take n ys, refl)
take-over (suc n) (y ∷ xs) x ys more =
    let less : length xs < n = omega (arith, more) in
    let (zs, is) = take-over n xs x ys less in
    (zs, ap (λ l. y ∷ l) is)

-- Fronts of a whole log

module _ (laws : TraceLaws)
    (cut : (setting : Setting) (history later : List Event) (frames : List TimedFrame) → IsSetting setting
    → IsLegal setting.rules (history ++ later)
    → IsCanTrace setting.sends setting.layout setting.requests (openings_of (history ++ later)) (next_of (history ++ later)) frames
    → IsCanTrace setting.sends setting.layout setting.requests (openings_of history) (next_of history)
    (started_before (next_of history * setting.layout.cycle) frames))
    (system : System) (steps : List Step) (requests : List Request) (known : IsSetting (setting_of system requests))
    (rows : List LogRow) (log : IsWholeLog system steps requests rows) where
  module _ (number : ℕ) where
    abbrev first : List LogRow
    first = take number rows

    reading : ReadsFirst system.rules steps [] (filter is_event_row first) log.history
    reading =
        let parts : filter is_event_row rows ≡ filter is_event_row first ++ filter is_event_row (drop number rows) =
        ap (filter is_event_row) (sym (take-append-drop number rows)) ∙ filter-append is_event_row first (drop number rows) in
        grind (arith, reads-first)

    abbrev front : List Event
    front = reading.front

    abbrev later : List Event
    later = reading.later

    abbrev trace : List TimedFrame
    trace = started_before (next_of front * system.layout.cycle) log.trace

    legal : IsLegal system.rules (front ++ later)
    legal = subst (IsLegal system.rules) reading.is log.run.legal

    can_trace : IsCanTrace bytes_of system.layout requests (openings_of (front ++ later)) (next_of (front ++ later)) log.trace
    can_trace = subst (λ h. IsCanTrace bytes_of system.layout requests (openings_of h) (next_of h) log.trace) reading.is log.run.can_trace

    front-legal : IsLegal system.rules front
    front-legal = (AllAfter-parts (IsRight system.rules) [] front later legal).0

    front-trace : IsCanTrace bytes_of system.layout requests (openings_of front) (next_of front) trace
    front-trace = cut (setting_of system requests) front later log.trace known legal can_trace

    abbrev told : List LogRow
    told = events_told trace [] front

    abbrev behind : List LogRow
    behind = events_told log.trace front later ++ row.End (next_of (front ++ later)) ∷ []

    split : rows ≡ told ++ behind
    split =
        log.log ∙ ap (λ h. log_rows h log.trace) reading.is
        ∙ log-goes-on laws (setting_of system requests) known front trace
        (laws.under_way (setting_of system requests) front trace known bytes_of-whole front-legal front-trace) bytes_of-whole later log.trace legal can_trace

    -- no row of a later event is among the first rows
    counted : length (filter is_event_row first) ≡ length (filter is_event_row told)
    counted = reads-count system.rules steps [] (filter is_event_row first) front reading.read ∙ sym (count-events trace [] front)

    over : (events : List Event) → later ≡ events → number ≤ length rows → length told < number
        → (more : List LogRow) × (first ++ more ≡ told ++ row.End (next_of front) ∷ [])
    over [] are few more =
        let last : behind ≡ row.End (next_of front) ∷ [] = grind (arith, append-nil) in
        grind (arith, split, length-append, take-whole, append-nil)
    over (event ∷ events) are few more =
        let begins = begins-event log.trace front event in
        let others : List LogRow = events_told log.trace (front ++ event ∷ []) events in
        let last : List LogRow = row.End (next_of (front ++ event ∷ events)) ∷ [] in
        let behind_is : behind ≡ begins.head ∷ ((begins.rest ++ others) ++ last) =
        ap (λ l. events_told log.trace front l ++ row.End (next_of (front ++ l)) ∷ []) are ∙ ap (λ l. (l ++ others) ++ last) begins.are in
        let all : rows ≡ told ++ begins.head ∷ ((begins.rest ++ others) ++ last) = split ∙ ap (λ l. told ++ l) behind_is in
        let (some, taken) = take-over number told begins.head ((begins.rest ++ others) ++ last) more in
        grind (arith, count-more, counted)

    -- the first rows begin the log of the first events
    begins-log : number ≤ length rows → (more : List LogRow) × (first ++ more ≡ told ++ row.End (next_of front) ∷ [])
    begins-log few = elim (cases_lt (length told) number) [
      | inl more ↦ over later refl few more
      | inr less ↦
          let same : first ≡ take number told = ap (take number) split ∙ take-front number told behind less in (
            drop number told ++ row.End (next_of front) ∷ [],
            ap (λ l. l ++ (drop number told ++ row.End (next_of front) ∷ [])) same
                ∙ sym (append_assoc (take number told) (drop number told) (row.End (next_of front) ∷ []))
                ∙ ap (λ l. l ++ row.End (next_of front) ∷ []) (take-append-drop number told),
          )
    ]

  -- each number of first rows can stand
  pub all-stand : AllStand system steps requests rows
  all-stand number few =
      let is = (reading number).is in
      let opened = log.run.opened in
      let parts = next_of-append (front number) (later number) in
      let same = ap next_of is in
      let (more, begins) = begins-log number few in
      record {
        history = front number;
        trace = trace number;
        read = (reading number).read;
        run = record {
          legal = front-legal number;
          can_trace = front-trace number;
          calls = begins-acts system.rules steps (take number rows) (front number) (reading number).read;
          opened = omega (arith, opened, parts, same);
        };
        later = more;
        front = begins;
      }
