-- The rows of an event that are heard all at once.
use Rattle.std.proofs.Common.{◌≡◌, ◌<◌, ◌≤◌, ◌++◌, ◌∙◌, ℕ, false, true, List, [], ◌∷◌, All, Some, length, refl, sym, ap, subst, arith, append_assoc}
use Rattle.std.specs.Prelude.{slice_get}
use Rattle.std.proofs.lemmas.List.{append_cancel_left, length-append}
use Rattle.std.proofs.lemmas.List.Concat.{flat_map-append}
use Rattle.std.proofs.lemmas.List.Elements.{All-append, All-cons, All-nil, All-tail, All-weaker}
use Rattle.can_frame.specs.declared.data_frame.TimedFrame.{TimedFrame}
use Rattle.async_window.specs.declared.request.Request.{Request}
use Rattle.master_core.specs.declared.event.Event.{Event}
use Rattle.master_core.specs.declared.event.Event.TheVariants.{Submit, Look, Open}
use Rattle.master_core.proofs.Shared.{OneVerdict}
use Rattle.kept_run.proofs.Shared.{Promises}
use Rattle.steps_file.specs.declared.steps.Step.{Step}
use Rattle.system_file.specs.declared.system.System.{System}
use Rattle.bus_trace.specs.Compared.{BeginsWith}
use Rattle.bus_trace.specs.EventRows.{told_at}
use Rattle.bus_trace.specs.LogRows.{plan_told, verdict_told}
use Rattle.log_reader.specs.Row.{row_text, text_of_rows}
use Rattle.log_reader.specs.declared.row.LogRow.{LogRow}
use Rattle.log_reader.specs.declared.row.LogRow.TheVariants as row
use Rattle.log_reader.proofs.Shared.{written-shorter}
use Rattle.trace_audit.specs.Again.{IsAgain, IsRerunBroughtOn}
use Rattle.trace_audit.specs.Audit.{AllStand, CanStand}
use Rattle.trace_audit.specs.Auditing.{AreRowsHeard, CanAudit, CanHear, IsAuditing, IsUpTo, TakesWritten, is_end, is_inner}
use Rattle.trace_audit.specs.Reading.{is_event_row}
use Rattle.trace_audit.specs.declared.log_audit.LogAudit.{LogAudit}
use Rattle.trace_audit.specs.declared.rerun.Rerun.{Rerun}
use Rattle.trace_audit.proofs.Ending.{can-stand}
use Rattle.trace_audit.proofs.Events.{inner-frames, inner-no_event, inner-plan, own-asks, told-head, told-later}
use Rattle.trace_audit.proofs.Readings.{history-before}
use Rattle.trace_audit.proofs.Standing.{none-left, rows-stand}
use Rattle.trace_audit.proofs.Whole.{inner-not_end, one-more}

-- Rows that can stand

module _ (system : System) (steps : List Step) (requests : List Request) where
  -- so can those before the last ones, where none of these is that of an event
  stood : (front later : List LogRow) → All (λ line. is_event_row line ≡ false) later → CanStand system steps requests (front ++ later)
      → CanStand system steps requests front
  stood front later none can = grind (arith, history-before, append_assoc)

  -- and each number of the first of them
  pub all-stood : (front : List LogRow) (line : LogRow) (later : List LogRow) → All (λ l. is_event_row l ≡ false) later
      → AllStand system steps requests front → CanStand system steps requests (front ++ line ∷ later)
      → AllStand system steps requests (front ++ line ∷ later)
  all-stood front line [] none stand can = one-more system steps requests front stand line can
  all-stood front line (next ∷ later) none stand can =
      let whole = append_assoc front (line ∷ []) (next ∷ later) in
      let all : CanStand system steps requests ((front ++ line ∷ []) ++ next ∷ later) = subst (CanStand system steps requests) (sym whole) can in
      let one = stood (front ++ line ∷ []) (next ∷ later) none all in
      subst (AllStand system steps requests) whole
      (all-stood (front ++ line ∷ []) next later (All-tail (λ l. is_event_row l ≡ false) next later none)
      (one-more system steps requests front stand line one) all)

-- The rows of an event end no log

not-end : (rows : List LogRow) → All (λ line. is_inner line ≡ true) rows → All (λ line. is_end line ≡ false) rows
not-end rows inner = All-weaker (λ l. is_inner l ≡ true) (λ l. is_end l ≡ false) inner-not_end rows inner

told-not_end : (width : ℕ) (event : Event) (frames : List TimedFrame) → All (λ line. is_end line ≡ false) (told_at width event frames)
told-not_end width event frames = grind (arith, not-end, inner-plan, inner-frames)

-- The rows of an event, all at once

-- an audit that has not heard the last row of a log goes on
pub auditing-of : (steps : List Step) (audit : LogAudit) → audit.ended ≡ false → CanHear steps audit → CanAudit steps audit.auditor
auditing-of steps audit going can = grind arith

same-last : (xs : List Event) (one other : Event) → xs ++ one ∷ [] ≡ xs ++ other ∷ [] → one ≡ other
same-last xs one other is = let last = append_cancel_left xs (one ∷ []) (other ∷ []) is in cc

module _ (steps : List Step) (old : LogAudit) (going : old.ended ≡ false) (all : old.auditor.came ≡ length old.auditor.rows.items)
    (kept : Promises) (verdicts : OneVerdict) (new : Rerun) where
  -- the audit with the event
  abbrev after : LogAudit
  after = record old { auditor = record old.auditor { rerun = new } }

  module _ (system : System) (requests : List Request) (rows : List LogRow) (heard : AreRowsHeard system steps requests rows old) where
    parts : IsUpTo system steps requests rows old.auditor false
    parts = subst (IsUpTo system steps requests rows old.auditor) going heard.up_to

    event-heard : (asked : LogRow) (on : IsRerunBroughtOn system steps requests parts.0.trace old.auditor.rerun asked new)
        (line : LogRow) (later : List LogRow) → told_at new.width on.event new.sent ≡ line ∷ later
        → AreRowsHeard system steps requests (rows ++ line ∷ later) after
    event-heard asked on line later are =
        let auditing = parts.0 in
        let own : IsRerunBroughtOn system steps requests auditing.trace old.auditor.rerun line new = grind (arith, own-asks) in
        let now = rows-stand system steps requests rows old.auditor auditing line kept verdicts new own all later are after.auditor refl
        (none-left system steps requests rows old.auditor auditing line all) auditing.within in
        let quiet = All-weaker (λ l. is_inner l ≡ true) (λ l. is_event_row l ≡ false) inner-no_event later
        (told-later new.width on.event new.sent line later are) in
        let ends = subst (All (λ l. is_end l ≡ false)) are (told-not_end new.width on.event new.sent) in
        record {
          stand = all-stood system steps requests rows line later quiet heard.stand
              (can-stand system steps requests (rows ++ line ∷ later) after.auditor now);
          up_to = subst (IsUpTo system steps requests (rows ++ line ∷ later) after.auditor) (sym going)
              (now, All-append (λ l. is_end l ≡ false) rows (line ∷ later) parts.1 ends);
        }

  -- where a text begins with the rows of the event, these are heard
  pub event-written : (event : Event) → new.master.history ≡ old.auditor.rerun.master.history ++ event ∷ []
      → ((system : System) (requests : List Request) (trace : List TimedFrame) → IsAgain system requests trace old.auditor.rerun
      → (asked : LogRow) × IsRerunBroughtOn system steps requests trace old.auditor.rerun asked new)
      → (text rest : List ℕ) → BeginsWith text (told_at new.width event new.sent) rest → TakesWritten steps old after text rest
  event-written event is on text rest begins =
      let head = told-head new.width event new.sent in
      record {
        line = head.head;
        later = head.rest;
        begins = subst (λ l. BeginsWith text l rest) head.are begins;
        hears = λ system requests rows heard.
            let auditing = (parts system requests rows heard).0 in
            let (asked, brought) = on system requests auditing.trace auditing.again in
            let same : event ≡ brought.event =
            same-last old.auditor.rerun.master.history event brought.event (sym is ∙ brought.history) in
            event-heard system requests rows heard asked brought head.head head.rest
            (ap (λ e. told_at new.width e new.sent) (sym same) ∙ head.are);
      }

-- Texts of rows

-- what stands behind the texts of some rows is shorter
pub rows-shorter : (line : LogRow) (later : List LogRow) (text rest : List ℕ) → text ≡ text_of_rows (line ∷ later) ++ rest
    → length rest < length text
rows-shorter line later text rest is = grind (arith, written-shorter, append_assoc, length-append)

-- behind the texts of rows stand those of others
pub rows-more : (text : List ℕ) (rows lines : List LogRow) (rest later : List ℕ) → text ≡ text_of_rows rows ++ rest
    → rest ≡ text_of_rows lines ++ later → text ≡ text_of_rows (rows ++ lines) ++ later
rows-more text rows lines rest later is more = grind (arith, append_assoc, flat_map-append)
