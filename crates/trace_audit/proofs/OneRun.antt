-- A log and the steps have one run.
use Rattle.std.proofs.Common.{◌≡◌, ◌≤◌, ◌++◌, ℕ, zero, suc, Bool, false, true, List, [], ◌∷◌, All, Option, None, Some, eqb, filter, get_or, length, map, refl, sym, ap, ◌∙◌, subst, arith, inl, inr, append_assoc, append-nil}
use Rattle.std.specs.Prelude.{count_by, option_map, slice_get, sum_by}
use Rattle.std.proofs.lemmas.Bool.{cases_lt, cond-false, cond-true, eq-eqb, ne_eqb}
use Rattle.std.proofs.lemmas.List.{length-map, map-append}
use Rattle.std.proofs.lemmas.List.Elements.{All-head, All-tail, filter-append}
use Rattle.std.proofs.lemmas.List.Sums.{length-filter}
use Rattle.std.proofs.lemmas.Option.{slice_get-map}
use Rattle.can_frame.specs.declared.data_frame.TimedFrame.{TimedFrame}
use Rattle.async_window.specs.declared.request.Request.{Request}
use Rattle.change_protocol.specs.declared.operations.Act.{Act}
use Rattle.change_protocol.specs.declared.operations.Act.TheVariants as act
use Rattle.admission_rules.specs.declared.Rules.{Rules}
use Rattle.master_core.specs.Calls.{Call, asked, call_of}
use Rattle.master_core.specs.declared.event.Event.{Event}
use Rattle.master_core.specs.declared.event.Event.TheVariants.{Submit, Look, Open}
use Rattle.master_core.specs.History.{AllAfter, IsLegal, IsRight, next_of}
use Rattle.master_core.proofs.Shared.{OneVerdict}
use Rattle.live_master.specs.Callers.{is_called_by, number_of, operator_number}
use Rattle.live_steps.specs.Live.{AnswersOperators, IsLive, acts_of}
use Rattle.steps_file.specs.StepsFile.{count_of}
use Rattle.steps_file.specs.declared.steps.Step.{Step}
use Rattle.system_file.specs.SystemFile.{IsSystem}
use Rattle.system_file.specs.declared.system.System.{System}
use Rattle.cycle_engine.specs.Offered.{AreAsynchronous}
use Rattle.kept_run.specs.Setting.{IsSetting}
use Rattle.replay_run.specs.Run.{setting_of}
use Rattle.bus_trace.specs.Log.{started_in}
use Rattle.bus_trace.specs.LogRows.{event_told, events_told, log_rows, plan_told, verdict_told}
use Rattle.log_reader.specs.declared.row.LogRow.{LogRow}
use Rattle.log_reader.specs.declared.row.LogRow.TheVariants as row
use Rattle.trace_audit.specs.Audit.{AllStand, BeginsActs, IsAuditFault, IsRunOf, IsWholeLog}
use Rattle.trace_audit.specs.declared.audit_fault.AuditFault.{AuditFault}
use Rattle.trace_audit.specs.declared.audit_fault.AuditFault.TheVariants.{Row, Unfinished, Memory}
use Rattle.trace_audit.specs.Reading.{AreReadFrom, IsHistoryOf, IsNextAct, IsReadFrom, is_event_row}
use Rattle.trace_audit.proofs.Acts.{get-behind}
use Rattle.trace_audit.proofs.Events.{inner-frames, inner-plan, read-asks, same-event}
use Rattle.trace_audit.proofs.Fronts.{no-event_row}
use Rattle.trace_audit.proofs.Readings.{history-stays}
use Rattle.trace_audit.proofs.Rows.{next_of-append}

-- a system and requests that were read
pub is-setting : (system : System) (requests : List Request) → IsSystem system → AreAsynchronous requests → IsSetting (setting_of system requests)
is-setting system requests is asynchronous = grind arith

-- The act that an event takes

-- where the calls of a history begin with the acts of each operator, a call within it takes the next act of its operator
takes-next : (steps : List Step) (before later : List Event) (event : Event) (caller : ℕ) (taken : Act)
    → BeginsActs steps (before ++ event ∷ later) → is_called_by caller event ≡ true → call_of event ≡ asked caller taken
    → IsNextAct steps before caller taken
takes-next steps before later event caller taken begins own call =
    let (rest, is) = begins caller in
    let own_of : Event → Bool = is_called_by caller in
    let calls : List Call = map call_of (filter own_of before) in
    let others : List Call = map call_of (filter own_of later) in
    let acts : List Call = map (asked caller) (acts_of caller steps) in
    let place : ℕ = count_by own_of before in
    let parts : map call_of (filter own_of (before ++ event ∷ later)) ≡ calls ++ call_of event ∷ others = grind (arith, filter-append, cond-true, map-append) in
    let all : calls ++ (call_of event ∷ (others ++ rest)) ≡ acts =
    sym (append_assoc calls (call_of event ∷ others) rest) ∙ ap (λ l. l ++ rest) (sym parts) ∙ is in
    let count : length calls ≡ place = length-map (filter own_of before) call_of ∙ length-filter own_of before in
    let there : slice_get acts (length calls) ≡ Some (call_of event) =
    ap (λ l. slice_get l (length calls)) (sym all) ∙ get-behind calls (call_of event ∷ (others ++ rest)) in
    grind (arith, slice_get-map)

-- The rows of events in a log

-- the row of an event is the first of its rows
abbrev row-of : List TimedFrame → List Event → Event → LogRow
row-of trace before event = get_or (event_told trace before event) 0 (row.End 0)

one-row : (trace : List TimedFrame) (before : List Event) (event : Event)
    → filter is_event_row (event_told trace before event) ≡ row-of trace before event ∷ []
one-row trace before event = grind (arith, no-event_row, inner-plan, inner-frames)

module _ (rules : Rules) (steps : List Step) where
  -- an event of a run is read from its row
  read-own : (trace : List TimedFrame) (before later : List Event) (event : Event) → IsRight rules before event → BeginsActs steps (before ++ event ∷ later)
      → IsReadFrom rules steps before (row-of trace before event) event
  read-own trace before later (Submit caller change from verdict trail) right begins = (
    refl,
    takes-next steps before later (Submit caller change from verdict trail) caller (act.Ask change) begins (eq-eqb caller caller refl) refl,
    right.plan,
  )
  read-own trace before later (Look caller next) right begins =
      (refl, takes-next steps before later (Look caller next) caller act.Look begins (eq-eqb caller caller refl) refl)
  read-own trace before later (Open cycle mask) right begins = (_, refl, refl, refl)

  reads-own : (trace : List TimedFrame) (before events : List Event) → AllAfter (IsRight rules) before events
      → BeginsActs steps (before ++ events) → AreReadFrom rules steps before (filter is_event_row (events_told trace before events)) events
  reads-own trace before [] right begins = tt
  reads-own trace before (event ∷ events) right begins =
      let told : List LogRow = event_told trace before event in
      let others : List LogRow = events_told trace (before ++ event ∷ []) events in
      let rows : filter is_event_row (told ++ others) ≡ row-of trace before event ∷ filter is_event_row others =
      filter-append is_event_row told others ∙ ap (λ l. l ++ filter is_event_row others) (one-row trace before event) in
      let rest = reads-own trace (before ++ event ∷ []) events right.1
      (subst (BeginsActs steps) (sym (append_assoc before (event ∷ []) events)) begins) in
      subst (λ l. AreReadFrom rules steps before l (event ∷ events)) (sym rows) (read-own trace before events event right.0 begins, rest)

  -- the history of a run is that of the rows of its log
  pub reads-log : (history : List Event) (trace : List TimedFrame) → IsLegal rules history → BeginsActs steps history
      → IsHistoryOf rules steps (log_rows history trace) history
  reads-log history trace legal begins = grind (arith, history-stays, reads-own)

  -- two legal histories of the same rows are one
  pub one-reading : OneVerdict → (before : List Event) (lines : List LogRow) (one other : List Event)
      → AreReadFrom rules steps before lines one → AreReadFrom rules steps before lines other
      → AllAfter (IsRight rules) before one → AllAfter (IsRight rules) before other
      → next_of (before ++ one) ≤ sum_by count_of steps → one ≡ other
  one-reading verdicts before [] [] [] read read2 right right2 few = refl
  one-reading verdicts before [] [] (y ∷ ys) read read2 right right2 few = absurd read2
  one-reading verdicts before [] (x ∷ xs) other read read2 right right2 few = absurd read
  one-reading verdicts before (line ∷ lines) [] other read read2 right right2 few = absurd read
  one-reading verdicts before (line ∷ lines) (x ∷ xs) [] read read2 right right2 few = absurd read2
  one-reading verdicts before (line ∷ lines) (x ∷ xs) (y ∷ ys) read read2 right right2 few =
      let row_is : (before ++ x ∷ []) ++ xs ≡ before ++ x ∷ xs = append_assoc before (x ∷ []) xs in
      let count = next_of-append (before ++ x ∷ []) xs in
      let whole : next_of ((before ++ x ∷ []) ++ xs) ≡ next_of (before ++ x ∷ xs) = ap next_of row_is in
      let asks = read-asks rules steps before line x read.0 (omega (arith, count, whole, few)) in
      let same : y ≡ x = same-event rules steps before verdicts line x y asks right.0 read2.0 right2.0 in
      let rest : xs ≡ ys =
      one-reading verdicts (before ++ x ∷ []) lines xs ys read.1
      (subst (λ e. AreReadFrom rules steps (before ++ e ∷ []) lines ys) same read2.1) right.1
      (subst (λ e. AllAfter (IsRight rules) (before ++ e ∷ []) ys) same right2.1) (omega (arith, whole, few)) in
      ap (λ l. x ∷ l) rest ∙ ap (λ e. e ∷ ys) (sym same)

-- two runs whose logs have the same rows have one history
pub one-history : OneVerdict → (system : System) (steps : List Step) (requests : List Request) (one other : List Event)
    (trace second : List TimedFrame) → IsRunOf system steps requests one trace → IsRunOf system steps requests other second
    → log_rows one trace ≡ log_rows other second → one ≡ other
one-history verdicts system steps requests one other trace second run run2 same =
    let read2 = reads-log system.rules steps other second run2.legal run2.calls in
    one-reading system.rules steps verdicts [] (filter is_event_row (log_rows one trace)) one other
    (reads-log system.rules steps one trace run.legal run.calls)
    (subst (λ l. AreReadFrom system.rules steps [] (filter is_event_row l) other) (sym same) read2) run.legal run2.legal run.opened

-- A run by threads

not-called : (operator : ℕ) (event : Event) → ((1 ≤ operator) × (operator ≤ 8) → ⊥) → number_of event ≤ 8
    → is_called_by operator event ≡ false
not-called operator event none few = grind (arith, ne_eqb)

none-called : (operator : ℕ) (history : List Event) → ((1 ≤ operator) × (operator ≤ 8) → ⊥) → All (λ event. number_of event ≤ 8) history
    → filter (is_called_by operator) history ≡ []
none-called operator [] none few = refl
none-called operator (event ∷ events) none few =
    cond-false (is_called_by operator event) (event ∷ filter (is_called_by operator) events) (filter (is_called_by operator) events)
    (not-called operator event none (All-head (λ e. number_of e ≤ 8) event events few))
    ∙ none-called operator events none (All-tail (λ e. number_of e ≤ 8) event events few)

-- what answers all acts of the operators answers the first ones
begins-answers : (steps : List Step) (history : List Event) → AnswersOperators history steps → BeginsActs steps history
begins-answers steps history answers operator =
    let acts : List Call = map (asked operator) (acts_of operator steps) in
    let others : ((1 ≤ operator) × (operator ≤ 8) → ⊥)
    → (later : List Call) × (map call_of (filter (is_called_by operator) history) ++ later ≡ acts) =
    λ none. (acts, ap (λ l. map call_of l ++ acts) (none-called operator history none answers.others)) in
    elim (cases_lt 0 operator) [
      | inl some ↦
          elim (cases_lt 8 operator) [
            | inl many ↦ others (λ range. omega (arith, many, range.1))
            | inr few ↦ ([], append-nil (map call_of (filter (is_called_by operator) history)) ∙ answers.answered operator (omega (arith, some)) few)
          ]
      | inr zero_is ↦ others (λ range. omega (arith, zero_is, range.0))
    ]

-- a run by threads is a run
pub live-run : (system : System) (steps : List Step) (requests : List Request) (history : List Event) (trace : List TimedFrame)
    → IsLive system steps requests history trace → IsRunOf system steps requests history trace
live-run system steps requests history trace live =
    let opened = live.answers.opened in
    record {
      legal = live.kept.legal;
      can_trace = live.kept.can_trace;
      calls = begins-answers steps history live.answers;
      opened = omega (arith, opened);
    }

-- a whole one
pub live-whole : (system : System) (steps : List Step) (requests : List Request) (history : List Event) (trace : List TimedFrame)
    → IsLive system steps requests history trace → IsWholeLog system steps requests (log_rows history trace)
live-whole system steps requests history trace live =
    let run = live-run system steps requests history trace live in
    grind (arith, reads-log)

-- rows that can stand, and are all rows of a whole run, have no fault but want of memory
pub whole-faultless : (system : System) (steps : List Step) (requests : List Request) (rows : List LogRow) (fault : AuditFault)
    → AllStand system steps requests rows → IsWholeLog system steps requests rows → IsAuditFault system steps requests rows fault
    → fault ≡ Memory
whole-faultless system steps requests rows fault stand log break = grind arith
