-- What rows so far say of the row behind them.
use Rattle.std.proofs.Common.{◌≡◌, ◌+◌, ◌<◌, ◌≤◌, ◌++◌, false, true, List, [], ◌∷◌, All, Some, drop, length, refl, sym, ap, ◌∙◌, subst, arith, inl, inr, append_assoc, append-nil}
use Rattle.std.specs.Prelude.{slice_get, sum_by}
use Rattle.std.proofs.lemmas.Bool.{cases_Bool}
use Rattle.std.proofs.Math.Seq.{drop-length}
use Rattle.std.proofs.lemmas.List.{length-drop}
use Rattle.std.proofs.lemmas.List.Elements.{All-head, All-nil, All-tail, All-weaker}
use Rattle.std.proofs.lemmas.Option.{slice_get_within}
use Rattle.can_frame.specs.declared.data_frame.TimedFrame.{TimedFrame}
use Rattle.async_window.specs.declared.request.Request.{Request}
use Rattle.admission_rules.specs.declared.Rules.{Rules}
use Rattle.requirement_table.specs.Instance.{bytes_of}
use Rattle.master_core.specs.declared.event.Event.{Event}
use Rattle.master_core.specs.declared.event.Event.TheVariants.{Submit, Look, Open}
use Rattle.master_core.specs.History.{IsLegal, IsRight, next_of}
use Rattle.master_core.specs.Openings.{openings_of}
use Rattle.cycle_engine.specs.Offered.{IsCanTrace}
use Rattle.cycle_engine.proofs.Shared.{bytes_of-whole}
use Rattle.kept_run.proofs.Shared.{AllAfter-parts, Promises, bytes_of-forgets, next_of-push}
use Rattle.steps_file.specs.StepsFile.{count_of}
use Rattle.steps_file.specs.declared.steps.Step.{Step}
use Rattle.system_file.specs.declared.system.System.{System}
use Rattle.replay_run.specs.Run.{setting_of}
use Rattle.bus_trace.specs.EventRows.{told_at}
use Rattle.bus_trace.specs.LogRows.{events_told, log_rows}
use Rattle.log_reader.specs.declared.row.LogRow.{LogRow}
use Rattle.log_reader.specs.declared.row.LogRow.TheVariants as row
use Rattle.trace_audit.specs.Again.{Asks, IsAgain, IsRerunBroughtOn}
use Rattle.trace_audit.specs.Ahead.{AreStepsAhead}
use Rattle.trace_audit.specs.Audit.{CanStand}
use Rattle.trace_audit.specs.Auditing.{IsAuditing, is_inner, left_of}
use Rattle.trace_audit.specs.Reading.{IsHistoryOf, IsReadFrom, is_event_row}
use Rattle.trace_audit.specs.declared.auditor.Auditor.{Auditor}
use Rattle.trace_audit.specs.declared.rerun.Rerun.{Rerun}
use Rattle.master_core.proofs.Shared.{OneVerdict}
use Rattle.trace_audit.proofs.Events.{AreInner, asked-read, inner-no_event, same-event, told-head, told-later}
use Rattle.trace_audit.proofs.Readings.{drop-next, get-drop, history-before, history-behind, history-parts, history-push, history-stays, history-stood, next-row}
use Rattle.trace_audit.proofs.Rows.{TraceLaws, log-goes-on}

-- what legal histories have
pub legal-front : (rules : Rules) (history : List Event) (event : Event) → IsLegal rules (history ++ event ∷ [])
    → IsLegal rules history × IsRight rules history event
legal-front rules history event legal =
    let parts = AllAfter-parts (IsRight rules) [] history (event ∷ []) legal in
    (parts.0, parts.1.0)

-- a row that asks for an event is that of an event
asks-is_event : (steps : List Step) (before : List Event) (line : LogRow) (event : Event) → Asks steps before line event
    → is_event_row line ≡ true
asks-is_event steps before line event asks = grind arith

-- and no more cycles are opened by it than the steps ask for
still-few : (steps : List Step) (before : List Event) (line : LogRow) (event : Event) → Asks steps before line event
    → next_of before ≤ sum_by count_of steps → next_of (before ++ event ∷ []) ≤ sum_by count_of steps
still-few steps before line event asks few = grind (arith, next_of-push)

-- the auditor after one of its rows has come
abbrev one-more : Auditor → Auditor
one-more auditor = record auditor { came = auditor.came + 1 }

module _ (system : System) (steps : List Step) (requests : List Request) (rows : List LogRow) (auditor : Auditor)
    (auditing : IsAuditing system steps requests rows auditor) (line : LogRow) where
  abbrev history : List Event
  history = auditor.rerun.master.history

  -- the history of these rows and one more
  module _ (other : List Event) (read : IsHistoryOf system.rules steps (rows ++ line ∷ []) other) (legal : IsLegal system.rules other) where
    pub stays : is_event_row line ≡ false → other ≡ history
    stays none = auditing.only other (history-stood system.rules steps rows line other none read) legal

    pub goes-on : (later : List Event) × (other ≡ history ++ later)
    goes-on = grind (arith, history-parts, legal-front, stays, append-nil)

  -- Rows that are left of the last event

  left-some : auditor.came < length auditor.rows.items → 0 < length (left_of auditor)
  left-some some = let count = length-drop auditor.came auditor.rows.items in omega (arith, count, some)

  module _ (laws : TraceLaws) where
    -- the row must be the first one that is left
    pub left-breaks : auditor.came < length auditor.rows.items → (slice_get auditor.rows.items auditor.came ≡ Some line → ⊥)
        → CanStand system steps requests (rows ++ line ∷ []) → ⊥
    left-breaks some other can =
        let (later, is) = goes-on can.history can.read can.run.legal in
        let way = auditing.again.way in
        let legal : IsLegal system.rules (history ++ later) = subst (IsLegal system.rules) is can.run.legal in
        let can_trace = subst (λ h. IsCanTrace bytes_of system.layout requests (openings_of h) (next_of h) can.trace) is can.run.can_trace in
        let log = log-goes-on laws (setting_of system requests) way.known history auditing.trace way.under_way bytes_of-whole later can.trace legal can_trace in
        grind (arith, next-row, left-some, get-drop)

  left-quiet : (left : List LogRow) → left_of auditor ≡ line ∷ left → is_event_row line ≡ false
  left-quiet left is = grind (arith, inner-no_event)

  -- where it is, the rows go on
  pub left-stands : slice_get auditor.rows.items auditor.came ≡ Some line
      → IsAuditing system steps requests (rows ++ line ∷ []) (one-more auditor)
  left-stands first =
      let within = slice_get_within auditor.rows.items auditor.came line first in
      let left = drop-next auditor.came auditor.rows.items line first in
      let quiet = left-quiet (drop (auditor.came + 1) auditor.rows.items) left in
      record {
        trace = auditing.trace;
        again = auditing.again;
        ahead = auditing.ahead;
        read = history-stays system.rules steps rows line history quiet auditing.read;
        only = λ other read legal. auditing.only other (history-stood system.rules steps rows line other quiet read) legal;
        opened = auditing.opened;
        within = omega (arith, within);
        inner = All-tail (λ l. is_inner l ≡ true) line (drop (auditor.came + 1) auditor.rows.items)
            (subst (All (λ l. is_inner l ≡ true)) left auditing.inner);
        told = append_assoc rows (line ∷ []) (drop (auditor.came + 1) auditor.rows.items) ∙ ap (λ l. rows ++ l) (sym left) ∙ auditing.told;
      }

  -- A row of an event

  pub none-left : auditor.came ≡ length auditor.rows.items → left_of auditor ≡ []
  none-left all = ap (λ n. drop n auditor.rows.items) all ∙ drop-length auditor.rows.items

  pub all-told : auditor.came ≡ length auditor.rows.items → rows ≡ events_told auditing.trace [] history
  all-told all = sym (append-nil rows) ∙ ap (λ l. rows ++ l) (sym (none-left all)) ∙ auditing.told

  module _ (kept : Promises) (verdicts : OneVerdict) (new : Rerun)
      (on : IsRerunBroughtOn system steps requests auditing.trace auditor.rerun line new)
      (all : auditor.came ≡ length auditor.rows.items) where
    abbrev trace : List TimedFrame
    trace = auditing.trace ++ on.frames

    -- the rows of the event
    abbrev told : List LogRow
    told = told_at new.width on.event new.sent

    new-legal : IsLegal system.rules (history ++ on.event ∷ [])
    new-legal = subst (IsLegal system.rules) on.history on.again.way.under_way.legal

    right : IsRight system.rules history on.event
    right = (legal-front system.rules history on.event new-legal).1

    is_event : is_event_row line ≡ true
    is_event = asks-is_event steps history line on.event on.asks

    -- the history of the rows with this one is that of the run with the event
    new-only : (other : List Event) → IsHistoryOf system.rules steps (rows ++ line ∷ []) other → IsLegal system.rules other
        → other ≡ new.master.history
    new-only other read legal = grind (arith, history-parts, is_event, legal-front, same-event, right)

    all-rows : rows ++ told ≡ events_told trace [] new.master.history
    all-rows = ap (λ l. l ++ told) (all-told all) ∙ sym on.told

    -- the row must be the first one of the event
    pub event-breaks : (slice_get told 0 ≡ Some line → ⊥) → CanStand system steps requests (rows ++ line ∷ []) → ⊥
    event-breaks other can =
        let way = on.again.way in
        let is : can.history ≡ new.master.history = new-only can.history can.read can.run.legal in
        let whole = kept.kept (setting_of system requests) new.master.history trace way.known bytes_of-forgets way.under_way in
        let same : can.trace ≡ trace = whole.only_trace can.trace
        (subst (λ h. IsCanTrace bytes_of system.layout requests (openings_of h) (next_of h) can.trace) is can.run.can_trace) in
        grind (arith, all-rows, next-row)

    -- where it is, the rows go on
    pub event-stands : (next : Auditor) → next.rerun ≡ new → next.rows.items ≡ told → next.came ≡ 1 → slice_get told 0 ≡ Some line
        → IsAuditing system steps requests (rows ++ line ∷ []) next
    event-stands next same_run same_rows one first =
        let head = told-head new.width on.event new.sent in
        grind (arith, drop-next, asked-read, right, history-push, is_event, new-only, still-few, append_assoc, all-rows)

    -- all rows of the event at once, where the row is the first of them: none of them is left then
    pub rows-stand : (later : List LogRow) → told ≡ line ∷ later → (next : Auditor) → next.rerun ≡ new → left_of next ≡ []
        → next.came ≤ length next.rows.items → IsAuditing system steps requests (rows ++ line ∷ later) next
    rows-stand later are next same_run none within =
        let inner : AreInner later = told-later new.width on.event new.sent line later are in
        let first : slice_get told 0 ≡ Some line = ap (λ l. slice_get l 0) are in
        let read = asked-read system.rules steps history line on.event new.width new.sent on.asks right first in
        let whole : (rows ++ line ∷ []) ++ later ≡ rows ++ line ∷ later = append_assoc rows (line ∷ []) later in
        grind (arith, history-behind, history-push, is_event, new-only, history-before, still-few, append-nil, all-rows)
