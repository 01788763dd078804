-- An audit between two rows.
use Rattle.std.specs.Prelude.{◌≡◌, ℕ, ◌≤◌, Bool, true, false, List, [], ◌∷◌, ◌++◌, All, count_by, drop, length, sum_by}
use Rattle.can_frame.specs.declared.data_frame.TimedFrame.{TimedFrame}
use Rattle.async_window.specs.declared.request.Request.{Request}
use Rattle.master_core.specs.declared.event.Event.{Event}
use Rattle.master_core.specs.History.{IsLegal, next_of}
use Rattle.steps_file.specs.StepsFile.{count_of}
use Rattle.steps_file.specs.declared.steps.Step.{Step}
use Rattle.system_file.specs.declared.system.System.{System}
use Rattle.bus_trace.specs.Compared.{BeginsWith}
use Rattle.bus_trace.specs.LogRows.{events_told}
use Rattle.log_reader.specs.Row.{IsLogRow, text_of_rows}
use Rattle.log_reader.specs.declared.row.LogRow.{LogRow}
use Rattle.log_reader.specs.declared.row.LogRow.TheVariants as row
use Rattle.live_master.specs.Callers.{is_called_by}
use Rattle.live_steps.specs.Live.{acts_of}
use Rattle.trace_audit.specs.Again.{IsAgain}
use Rattle.trace_audit.specs.Ahead.{AreStepsAhead}
use Rattle.trace_audit.specs.Audit.{AllStand, CanStand, IsAudited}
use Rattle.trace_audit.specs.Reading.{IsHistoryOf}
use Rattle.trace_audit.specs.declared.auditor.Auditor.{Auditor}
use Rattle.trace_audit.specs.declared.log_audit.LogAudit.{LogAudit}

-- whether a row is one of those that follow the row of their event
abbrev pub is_inner : LogRow → Bool
is_inner (row.Plan cycle mask) = true
is_inner (row.Frame timed) = true
is_inner _ = false

-- the rows that are left of the last event
abbrev pub left_of : Auditor → List LogRow
left_of auditor = drop auditor.came auditor.rows.items

-- the rows so far can stand: the auditor has done again what they say, and theirs is the one legal history of the rows.
-- What is left of its last event are the rows that must follow, none of which is that of an event or the last one of a
-- log
pub record IsAuditing (system : System) (steps : List Step) (requests : List Request) (rows : List LogRow)
    (auditor : Auditor) : Type 0 where
  pub trace : List TimedFrame
  pub again : IsAgain system requests trace auditor.rerun
  pub ahead : AreStepsAhead steps auditor.rerun.master.history auditor.rerun.ahead
  pub read : IsHistoryOf system.rules steps rows auditor.rerun.master.history
  pub only : (other : List Event) → IsHistoryOf system.rules steps rows other → IsLegal system.rules other
      → other ≡ auditor.rerun.master.history
  pub opened : next_of auditor.rerun.master.history ≤ sum_by count_of steps
  pub within : auditor.came ≤ length auditor.rows.items
  pub inner : All (λ line. is_inner line ≡ true) (left_of auditor)
  pub told : rows ++ left_of auditor ≡ events_told trace [] auditor.rerun.master.history

-- so it is for some system, requests and rows
abbrev pub CanAudit : List Step → Auditor → Type 0
CanAudit steps auditor =
    (system : System) × (requests : List Request) × (rows : List LogRow) × IsAuditing system steps requests rows auditor

-- what a row says to an auditor that it is the next one, or that it is not: with it the rows can stand too, or they cannot
pub record TakesRow (steps : List Step) (old new : Auditor) (line : LogRow) (stands : Bool) : Type 0 where
  pub stand : stands ≡ true → (system : System) (requests : List Request) (rows : List LogRow)
      → IsAuditing system steps requests rows old → IsAuditing system steps requests (rows ++ line ∷ []) new
  pub break : stands ≡ false → (system : System) (requests : List Request) (rows : List LogRow)
      → IsAuditing system steps requests rows old → CanStand system steps requests (rows ++ line ∷ []) → ⊥

-- whether the row is the last one of a log
abbrev pub is_end : LogRow → Bool
is_end (row.End next) = true
is_end _ = false

-- the steps are answered by these events: all acts of each operator
abbrev pub AnswersAllActs : List Step → List Event → Type 0
AnswersAllActs steps history = (operator : ℕ) → 1 ≤ operator → operator ≤ 8
    → count_by (is_called_by operator) history ≡ length (acts_of operator steps)

-- the last of the rows ends a log: those before it are audited, none of their last event is left, and so many cycles were
-- opened
pub record IsEnded (system : System) (steps : List Step) (requests : List Request) (rows : List LogRow)
    (auditor : Auditor) : Type 0 where
  pub before : List LogRow
  pub next : ℕ
  pub rows_are : rows ≡ before ++ row.End next ∷ []
  pub auditing : IsAuditing system steps requests before auditor
  pub all_came : auditor.came ≡ length auditor.rows.items
  pub opened : next ≡ next_of auditor.rerun.master.history

-- rows are audited none of which ends a log; or the last of them ends it
abbrev pub IsUpTo : System → List Step → List Request → List LogRow → Auditor → Bool → Type 0
IsUpTo system steps requests rows auditor false =
    IsAuditing system steps requests rows auditor × All (λ line. is_end line ≡ false) rows
IsUpTo system steps requests rows auditor true = IsEnded system steps requests rows auditor

-- the audit has heard these rows, and each number of the first of them can stand
pub record AreRowsHeard (system : System) (steps : List Step) (requests : List Request) (rows : List LogRow)
    (audit : LogAudit) : Type 0 where
  pub stand : AllStand system steps requests rows
  pub up_to : IsUpTo system steps requests rows audit.auditor audit.ended

-- so it is for some system, requests and rows
abbrev pub CanHear : List Step → LogAudit → Type 0
CanHear steps audit =
    (system : System) × (requests : List Request) × (rows : List LogRow) × AreRowsHeard system steps requests rows audit

-- what a row says to an audit that it is the next one, or that it is not: with it the rows can stand too, or they cannot
pub record Hears (steps : List Step) (old new : LogAudit) (line : LogRow) (stands : Bool) : Type 0 where
  pub stand : stands ≡ true → (system : System) (requests : List Request) (rows : List LogRow)
      → AreRowsHeard system steps requests rows old → AreRowsHeard system steps requests (rows ++ line ∷ []) new
  pub break : stands ≡ false → (system : System) (requests : List Request) (rows : List LogRow)
      → AreRowsHeard system steps requests rows old → CanStand system steps requests (rows ++ line ∷ []) → ⊥

-- the text begins with that of some rows of a log, and with these the rows can stand too
pub record TakesWritten (steps : List Step) (old new : LogAudit) (text rest : List ℕ) : Type 0 where
  pub line : LogRow
  pub later : List LogRow
  pub begins : BeginsWith text (line ∷ later) rest
  pub hears : (system : System) (requests : List Request) (rows : List LogRow)
      → AreRowsHeard system steps requests rows old
      → AreRowsHeard system steps requests (rows ++ line ∷ later) new

-- the audit has heard rows of a log whose texts, one after the other, are the text up to this rest
pub record IsHeardUpTo (system : System) (steps : List Step) (requests : List Request) (text rest : List ℕ)
    (audit : LogAudit) : Type 0 where
  pub rows : List LogRow
  pub legal : All IsLogRow rows
  pub written : text ≡ text_of_rows rows ++ rest
  pub heard : AreRowsHeard system steps requests rows audit

-- the text is the texts of rows of a log, one after the other, and these are audited
pub record IsWrittenLog (system : System) (steps : List Step) (requests : List Request) (text : List ℕ) : Type 0 where
  pub rows : List LogRow
  pub legal : All IsLogRow rows
  pub written : text ≡ text_of_rows rows
  pub audited : IsAudited system steps requests rows
