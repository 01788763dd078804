-- What rows so far say of themselves, and of the last row of a log behind them.
use Rattle.std.proofs.Common.{◌≡◌, ◌+◌, ◌≤◌, ◌++◌, ℕ, false, true, List, [], ◌∷◌, All, None, Some, drop, eqb, filter, length, map, refl, sym, ap, ◌∙◌, subst, arith, inl, inr, append_assoc, append-nil}
use Rattle.std.specs.Prelude.{count_by, slice_get, sum_by}
use Rattle.std.specs.List.{cons_option}
use Rattle.std.proofs.lemmas.Bool.{cases_Bool, cases_lt, cond-false, eqb-true, ne_eqb}
use Rattle.std.proofs.lemmas.List.{append_cancel_left, length-append, length-drop, length-map}
use Rattle.std.proofs.lemmas.List.Sums.{length-filter}
use Rattle.std.proofs.lemmas.List.Elements.{All-cons, All-head, All-nil, All-tail}
use Rattle.std.proofs.lemmas.Option.{slice_get_within}
use Rattle.async_window.specs.declared.request.Request.{Request}
use Rattle.change_protocol.specs.declared.operations.Act.{Act}
use Rattle.change_protocol.specs.declared.operations.Act.TheVariants as act
use Rattle.admission_rules.specs.declared.Rules.{Rules}
use Rattle.can_frame.specs.declared.data_frame.TimedFrame.{TimedFrame}
use Rattle.requirement_table.specs.Instance.{bytes_of}
use Rattle.master_core.specs.Calls.{Call, asked, call_of}
use Rattle.master_core.specs.declared.event.Event.{Event}
use Rattle.master_core.specs.declared.event.Event.TheVariants.{Submit, Look, Open}
use Rattle.master_core.specs.History.{IsLegal, IsRight, next_of}
use Rattle.master_core.specs.Openings.{openings_of}
use Rattle.cycle_engine.specs.Offered.{IsCanTrace}
use Rattle.cycle_engine.proofs.Shared.{bytes_of-whole}
use Rattle.kept_run.proofs.Shared.{Promises, bytes_of-forgets}
use Rattle.live_master.specs.Callers.{is_called_by, number_of, operator_number}
use Rattle.live_run.specs.Answers.{AnswersActs}
use Rattle.live_steps.specs.Live.{AnswersOperators, act_of, acts_of}
use Rattle.steps_file.specs.StepsFile.{IsStep, count_of}
use Rattle.steps_file.specs.declared.steps.Step.{Step}
use Rattle.steps_file.specs.declared.steps.Step.TheVariants as step
use Rattle.system_file.specs.declared.system.System.{System}
use Rattle.replay_run.specs.Run.{setting_of}
use Rattle.bus_trace.specs.LogRows.{event_told, events_told, log_rows}
use Rattle.log_reader.specs.declared.row.LogRow.{LogRow}
use Rattle.log_reader.specs.declared.row.LogRow.TheVariants as row
use Rattle.trace_audit.specs.Again.{Asks}
use Rattle.trace_audit.specs.Audit.{CanStand, IsRunOf, IsWholeLog}
use Rattle.trace_audit.specs.Auditing.{AnswersAllActs, IsAuditing, is_end, is_inner, left_of}
use Rattle.trace_audit.specs.Reading.{AreReadFrom, IsHistoryOf, IsReadFrom, is_event_row}
use Rattle.trace_audit.specs.declared.auditor.Auditor.{Auditor}
use Rattle.trace_audit.proofs.Acts.{begins-acts}
use Rattle.trace_audit.proofs.Events.{read-asks}
use Rattle.trace_audit.proofs.Readings.{drop-next, history-parts, history-stays, history-stood, next-row}
use Rattle.trace_audit.proofs.Rows.{TraceLaws, log-goes-on}
use Rattle.trace_audit.proofs.Standing.{all-told, legal-front, none-left, stays}

told-no_end : (trace : List TimedFrame) (before : List Event) (event : Event) (next : ℕ) (later rest : List LogRow)
    → row.End next ∷ later ≡ event_told trace before event ++ rest → ⊥
told-no_end trace before event next later rest is = grind arith

module _ (system : System) (steps : List Step) (requests : List Request) (rows : List LogRow) (auditor : Auditor)
    (auditing : IsAuditing system steps requests rows auditor) where
  abbrev history : List Event
  history = auditor.rerun.master.history

  abbrev last : LogRow
  last = row.End (next_of history)

  pub is-run : IsRunOf system steps requests history auditing.trace
  is-run = record {
    legal = auditing.again.way.under_way.legal;
    can_trace = auditing.again.way.under_way.can_trace;
    calls = begins-acts system.rules steps rows history auditing.read;
    opened = auditing.opened;
  }

  -- the rows can stand
  pub can-stand : CanStand system steps requests rows
  can-stand = record {
    history = history;
    trace = auditing.trace;
    read = auditing.read;
    run = is-run;
    later = left_of auditor ++ last ∷ [];
    front = sym (append_assoc rows (left_of auditor) (last ∷ [])) ∙ ap (λ l. l ++ last ∷ []) auditing.told;
  }

  -- A row with which the run does not go on

  module _ (kept : Promises) (laws : TraceLaws) (all : auditor.came ≡ length auditor.rows.items) (line : LogRow) where
    -- a row that is not that of an event is the last one of a log, with the number of cycles
    pub other-is_last : is_event_row line ≡ false → CanStand system steps requests (rows ++ line ∷ []) → line ≡ last
    other-is_last none can =
        let way = auditing.again.way in
        let is : can.history ≡ history = stays system steps requests rows auditor auditing line can.history can.read can.run.legal none in
        let whole = kept.kept (setting_of system requests) history auditing.trace way.known bytes_of-forgets way.under_way in
        let same : can.trace ≡ auditing.trace = whole.only_trace can.trace
        (subst (λ h. IsCanTrace bytes_of system.layout requests (openings_of h) (next_of h) can.trace) is can.run.can_trace) in
        let begins : (rows ++ line ∷ []) ++ can.later ≡ (rows ++ last ∷ []) ++ [] =
        can.front ∙ ap (λ h. log_rows h can.trace) is ∙ ap (λ t. log_rows history t) same
        ∙ ap (λ l. l ++ last ∷ []) (sym (all-told system steps requests rows auditor auditing line all)) ∙ sym (append-nil (rows ++ last ∷ [])) in
        let first : slice_get (last ∷ []) 0 ≡ Some line = next-row rows (last ∷ []) line can.later [] begins (omega arith) in
        cc

    -- where no right event is asked for, no row but the last one of a log can follow
    pub none-breaks : is_end line ≡ false → ((event : Event) → IsRight system.rules history event → Asks steps history line event → ⊥)
        → CanStand system steps requests (rows ++ line ∷ []) → ⊥
    none-breaks not_last none can = grind (arith, history-parts, legal-front, read-asks, other-is_last)

  -- The last row of a log

  module _ (laws : TraceLaws) where
    -- what follows the rows that are left, in the log of any run that goes on
    log-from : (other : List Event) (trace : List TimedFrame) (later : List Event) → other ≡ history ++ later
        → IsLegal system.rules other → IsCanTrace bytes_of system.layout requests (openings_of other) (next_of other) trace
        → log_rows other trace ≡ (rows ++ left_of auditor) ++ (events_told trace history later ++ row.End (next_of (history ++ later)) ∷ [])
    log-from other trace later is legal can_trace =
        let way = auditing.again.way in
        ap (λ h. log_rows h trace) is
        ∙ log-goes-on laws (setting_of system requests) way.known history auditing.trace way.under_way bytes_of-whole later trace
        (subst (IsLegal system.rules) is legal)
        (subst (λ h. IsCanTrace bytes_of system.layout requests (openings_of h) (next_of h) trace) is can_trace)
        ∙ ap (λ l. l ++ (events_told trace history later ++ row.End (next_of (history ++ later)) ∷ [])) (sym auditing.told)

    -- the last row of a log can stand only where no row of the last event is left and so many cycles were opened
    pub end-breaks : (kept : Promises) (next : ℕ) → (auditor.came ≡ length auditor.rows.items → next ≡ next_of history → ⊥)
        → CanStand system steps requests (rows ++ row.End next ∷ []) → ⊥
    end-breaks kept next none can = elim (cases_lt auditor.came (length auditor.rows.items)) [
      | inl some ↦
          let is : can.history ≡ history =
          stays system steps requests rows auditor auditing (row.End next) can.history can.read can.run.legal refl in
          let log = log-from can.history can.trace [] (is ∙ sym (append-nil history)) can.run.legal can.run.can_trace in
          let rest : List LogRow = events_told can.trace history [] ++ row.End (next_of (history ++ [])) ∷ [] in
          let count = length-drop auditor.came auditor.rows.items in
          let first : slice_get (left_of auditor) 0 ≡ Some (row.End next) =
          next-row rows (left_of auditor) (row.End next) can.later rest (can.front ∙ log) (omega (arith, some, count)) in
          let inner : is_inner (row.End next) ≡ true =
          All-head (λ l. is_inner l ≡ true) (row.End next) (drop 1 (left_of auditor))
          (subst (All (λ l. is_inner l ≡ true)) (drop-next 0 (left_of auditor) (row.End next) first) auditing.inner) in
          absurd (cc)
      | inr none_left ↦
          let within = auditing.within in
          let all : auditor.came ≡ length auditor.rows.items = omega (arith, within, none_left) in
          let is = other-is_last kept laws all (row.End next) refl can in
          let same : next ≡ next_of history = cc in
          none all same
    ]

    -- and no row can stand behind it
    pub behind-breaks : (next : ℕ) (line : LogRow) → auditor.came ≡ length auditor.rows.items
        → CanStand system steps requests ((rows ++ row.End next ∷ []) ++ line ∷ []) → ⊥
    behind-breaks next line all can =
        let before : List LogRow = rows ++ row.End next ∷ [] in
        let none : left_of auditor ≡ [] = none-left system steps requests rows auditor auditing line all in
        let row_is : rows ++ (row.End next ∷ line ∷ can.later) ≡ (before ++ line ∷ []) ++ can.later =
        sym (append_assoc before (line ∷ []) can.later ∙ append_assoc rows (row.End next ∷ []) (line ∷ can.later)) in
        elim (cases_Bool (is_event_row line)) [
          | inl is ↦
              let parts = history-parts system.rules steps before line can.history is can.read in
              let whole = legal-front system.rules parts.front parts.event (subst (IsLegal system.rules) parts.is can.run.legal) in
              let front : parts.front ≡ history =
              auditing.only parts.front (history-stood system.rules steps rows (row.End next) parts.front refl parts.all) whole.0 in
              let goes : can.history ≡ history ++ parts.event ∷ [] = parts.is ∙ ap (λ l. l ++ parts.event ∷ []) front in
              let last_row : List LogRow = row.End (next_of (history ++ parts.event ∷ [])) ∷ [] in
              let rest : List LogRow = events_told can.trace history (parts.event ∷ []) ++ last_row in
              let log = log-from can.history can.trace (parts.event ∷ []) goes can.run.legal can.run.can_trace in
              let begins : rows ++ (row.End next ∷ line ∷ can.later) ≡ rows ++ rest =
              row_is ∙ can.front ∙ log ∙ append_assoc rows (left_of auditor) rest ∙ ap (λ l. rows ++ (l ++ rest)) none in
              let same : row.End next ∷ line ∷ can.later ≡ rest = append_cancel_left rows (row.End next ∷ line ∷ can.later) rest begins in
              told-no_end can.trace history parts.event next (line ∷ can.later) last_row
              (same ∙ ap (λ l. l ++ last_row) (append-nil (event_told can.trace history parts.event)))
          | inr other ↦
              let read = history-stood system.rules steps rows (row.End next) can.history refl
              (history-stood system.rules steps before line can.history other can.read) in
              let is : can.history ≡ history = auditing.only can.history read can.run.legal in
              let rest : List LogRow = events_told can.trace history [] ++ row.End (next_of (history ++ [])) ∷ [] in
              let log = log-from can.history can.trace [] (is ∙ sym (append-nil history)) can.run.legal can.run.can_trace in
              let begins : rows ++ (row.End next ∷ line ∷ can.later) ≡ rows ++ rest =
              row_is ∙ can.front ∙ log ∙ append_assoc rows (left_of auditor) rest ∙ ap (λ l. rows ++ (l ++ rest)) none in
              let same : row.End next ∷ line ∷ can.later ≡ rest = append_cancel_left rows (row.End next ∷ line ∷ can.later) rest begins in
              absurd (cc)
        ]

  -- All rows of a whole run

  module _ (kept : Promises) (all : auditor.came ≡ length auditor.rows.items) where
    pub log-ends : (next : ℕ) → next ≡ next_of history → rows ++ row.End next ∷ [] ≡ log_rows history auditing.trace
    log-ends next is =
        ap (λ n. rows ++ row.End n ∷ []) is
        ∙ ap (λ l. l ++ last ∷ []) (all-told system steps requests rows auditor auditing last all)

    pub end-stands : (next : ℕ) → next ≡ next_of history → CanStand system steps requests (rows ++ row.End next ∷ [])
    end-stands next is = grind (arith, history-stays, is-run, append-nil, log-ends)

    abbrev pub is-whole : (next : ℕ) → next ≡ next_of history → AnswersOperators history steps
        → IsWholeLog system steps requests (rows ++ row.End next ∷ [])
    is-whole next is answers = record {
      history = history;
      trace = auditing.trace;
      read = history-stays system.rules steps rows (row.End next) history refl auditing.read;
      run = is-run;
      whole = answers;
      log = log-ends next is;
    }

    -- the history of a whole log is that of the audit
    pub whole-answers : (next : ℕ) → IsWholeLog system steps requests (rows ++ row.End next ∷ []) → AnswersOperators history steps
    whole-answers next log =
        subst (λ h. AnswersOperators h steps)
        (auditing.only log.history (history-stood system.rules steps rows (row.End next) log.history refl log.read) log.run.legal) log.whole

-- What answers the steps

nil-of_length : {A : Type 0} (xs : List A) → length xs ≡ 0 → xs ≡ []
nil-of_length [] is = refl
nil-of_length (x ∷ xs) is = absurd (omega (arith, is))

-- as many calls as there are acts are calls for all acts
all-called : (steps : List Step) (history : List Event) (operator : ℕ)
    → (later : List Call) × (map call_of (filter (is_called_by operator) history) ++ later ≡ map (asked operator) (acts_of operator steps))
    → count_by (is_called_by operator) history ≡ length (acts_of operator steps)
    → AnswersActs operator (acts_of operator steps) (filter (is_called_by operator) history)
all-called steps history operator begins count = grind (arith, length-map, length-filter, length-append, nil-of_length, append-nil)

-- and the other way round
called-all : (steps : List Step) (history : List Event) (operator : ℕ)
    → AnswersActs operator (acts_of operator steps) (filter (is_called_by operator) history)
    → count_by (is_called_by operator) history ≡ length (acts_of operator steps)
called-all steps history operator answers = grind (arith, length-filter, length-map)

-- an act of an operator in the steps of a file is that of one of the operators 1 to 8
pub act-range : (operator : ℕ) (steps : List Step) (place : ℕ) (taken : Act) → All IsStep steps
    → slice_get (acts_of operator steps) place ≡ Some taken → (1 ≤ operator) × (operator ≤ 8)
act-range operator [] place taken legal is = let none = slice_get_within {A = Act} [] place taken is in absurd (omega (arith, none))
act-range operator (step.Cycle count ∷ steps) place taken legal is =
    act-range operator steps place taken (All-tail IsStep (step.Cycle count) steps legal) is
act-range operator (step.Act caller given ∷ steps) place taken legal is = elim (cases_Bool (eqb caller operator)) [
  | inl same ↦
      let head = All-head IsStep (step.Act caller given) steps legal in
      let caller_is = eqb-true caller operator same in
      (omega (arith, head.0, caller_is), omega (arith, head.1, caller_is))
  | inr other ↦
      let none : act_of operator (step.Act caller given) ≡ None = cond-false (eqb caller operator) (Some given) None other in
      let same : acts_of operator (step.Act caller given ∷ steps) ≡ acts_of operator steps =
      ap (λ o. cons_option o (acts_of operator steps)) none in
      act-range operator steps place taken (All-tail IsStep (step.Act caller given) steps legal)
      (subst (λ l. slice_get l place ≡ Some taken) same is)
]

event-range : (rules : Rules) (steps : List Step) (before : List Event) (line : LogRow) (event : Event) → All IsStep steps
    → IsReadFrom rules steps before line event → number_of event ≤ 8
event-range rules steps before line (Submit caller change from verdict trail) legal read =
    let range = act-range caller steps _ (act.Ask change) legal read.1 in
    grind (arith, cond-false, eqb, ne_eqb)
event-range rules steps before line (Look caller next) legal read =
    let range = act-range caller steps _ act.Look legal read.1 in
    grind (arith, cond-false, eqb, ne_eqb)
event-range rules steps before line (Open cycle mask) legal read = omega arith

events-range : (rules : Rules) (steps : List Step) (before : List Event) (lines : List LogRow) (events : List Event) → All IsStep steps
    → AreReadFrom rules steps before lines events → All (λ event. number_of event ≤ 8) events
events-range rules steps before [] [] legal read = All-nil (λ event. number_of event ≤ 8)
events-range rules steps before [] (event ∷ events) legal read = absurd read
events-range rules steps before (line ∷ lines) [] legal read = absurd read
events-range rules steps before (line ∷ lines) (event ∷ events) legal read =
    All-cons (λ e. number_of e ≤ 8) event events (event-range rules steps before line event legal read.0)
    (events-range rules steps (before ++ event ∷ []) lines events legal read.1)

-- all that the steps ask for has happened
pub answers-operators : (rules : Rules) (steps : List Step) (rows : List LogRow) (history : List Event) → All IsStep steps
    → IsHistoryOf rules steps rows history → next_of history ≡ sum_by count_of steps → AnswersAllActs steps history → AnswersOperators history steps
answers-operators rules steps rows history legal read opened all = record {
  opened = opened;
  answered = λ operator some few. all-called steps history operator (begins-acts rules steps rows history read operator) (all operator some few);
  others = events-range rules steps [] (filter is_event_row rows) history legal read;
}

-- and the other way round
pub operators-answer : (steps : List Step) (history : List Event) → AnswersOperators history steps → AnswersAllActs steps history
operators-answer steps history answers = λ operator some few. called-all steps history operator (answers.answered operator some few)
