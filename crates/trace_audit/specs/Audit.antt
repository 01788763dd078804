-- *Audit*: which rows can be those of a run of a system, steps and requests.
use Rattle.std.specs.Prelude.{◌≡◌, ℕ, ◌<◌, ◌≤◌, List, ◌++◌, filter, length, map, sum_by, take}
use Rattle.can_frame.specs.declared.data_frame.TimedFrame.{TimedFrame}
use Rattle.requirement_table.specs.Instance.{bytes_of}
use Rattle.async_window.specs.declared.request.Request.{Request}
use Rattle.master_core.specs.Calls.{Call, asked, call_of}
use Rattle.master_core.specs.declared.event.Event.{Event}
use Rattle.master_core.specs.History.{IsLegal, next_of}
use Rattle.master_core.specs.Openings.{openings_of}
use Rattle.cycle_engine.specs.Offered.{IsCanTrace}
use Rattle.kept_run.specs.Kept.{Kept}
use Rattle.live_master.specs.Callers.{is_called_by}
use Rattle.steps_file.specs.StepsFile.{count_of}
use Rattle.steps_file.specs.declared.steps.Step.{Step}
use Rattle.system_file.specs.declared.system.System.{System}
use Rattle.replay_run.specs.Run.{setting_of}
use Rattle.live_steps.specs.Live.{AnswersOperators, acts_of}
use Rattle.bus_trace.specs.LogRows.{log_rows}
use Rattle.log_reader.specs.declared.row.LogRow.{LogRow}
use Rattle.trace_audit.specs.Reading.{IsHistoryOf}
use Rattle.trace_audit.specs.declared.audit_fault.AuditFault.{AuditFault}
use Rattle.trace_audit.specs.declared.audit_fault.AuditFault.TheVariants.{Row, Unfinished, Memory}

-- the calls that a history has of each number are the first acts of the operator of this number, in their order, each
-- once. So nobody calls with a number of which the steps have no act
abbrev pub BeginsActs : List Step → List Event → Type 0
BeginsActs steps history = (operator : ℕ)
    → (later : List Call)
    × (map call_of (filter (is_called_by operator) history) ++ later ≡ map (asked operator) (acts_of operator steps))

-- *Run* of a system, steps and requests: a legal history with its CAN trace, which answers the first acts of each
-- operator, and opens no more cycles than all counts together
pub record IsRunOf (system : System) (steps : List Step) (requests : List Request)
    (history : List Event) (trace : List TimedFrame) : Type 0 where
  pub legal : IsLegal system.rules history
  pub can_trace : IsCanTrace bytes_of system.layout requests (openings_of history) (next_of history) trace
  pub calls : BeginsActs steps history
  pub opened : next_of history ≤ sum_by count_of steps

-- *Can stand*: the history of the rows, with its CAN trace, is a run, whose log begins with the rows
pub record CanStand (system : System) (steps : List Step) (requests : List Request) (rows : List LogRow) : Type 0 where
  pub history : List Event
  pub trace : List TimedFrame
  pub read : IsHistoryOf system.rules steps rows history
  pub run : IsRunOf system steps requests history trace
  pub later : List LogRow
  pub front : rows ++ later ≡ log_rows history trace

-- all rows of a log: the history of the rows, with its CAN trace, is a whole run, one that answers all acts of each
-- operator and opens as many cycles as all counts together; and the rows are those of its log
pub record IsWholeLog (system : System) (steps : List Step) (requests : List Request) (rows : List LogRow) : Type 0 where
  pub history : List Event
  pub trace : List TimedFrame
  pub read : IsHistoryOf system.rules steps rows history
  pub run : IsRunOf system steps requests history trace
  pub whole : AnswersOperators history steps
  pub log : rows ≡ log_rows history trace

-- each number of first rows can stand
abbrev pub AllStand : System → List Step → List Request → List LogRow → Type 0
AllStand system steps requests rows = (number : ℕ) → number ≤ length rows → CanStand system steps requests (take number rows)

-- *Audit*: each number of first rows can stand, the rows are all rows of a whole run, and its history and trace keep
-- what is promised of every run
pub record IsAudited (system : System) (steps : List Step) (requests : List Request) (rows : List LogRow) : Type 0 where
  pub stand : AllStand system steps requests rows
  pub all : IsWholeLog system steps requests rows
  pub kept : Kept (setting_of system requests) all.history all.trace

-- the first so many rows are the least number of first rows that cannot stand
pub record IsFirstBreak (system : System) (steps : List Step) (requests : List Request) (rows : List LogRow)
    (number : ℕ) : Type 0 where
  pub within : number ≤ length rows
  pub before : (fewer : ℕ) → fewer < number → CanStand system steps requests (take fewer rows)
  pub breaks : CanStand system steps requests (take number rows) → ⊥

-- all rows can stand, and they are not all rows of a whole run
pub record IsUnfinished (system : System) (steps : List Step) (requests : List Request) (rows : List LogRow)
    : Type 0 where
  pub stand : AllStand system steps requests rows
  pub not_all : IsWholeLog system steps requests rows → ⊥

-- what a fault says of the rows; want of memory says nothing
abbrev pub IsAuditFault : System → List Step → List Request → List LogRow → AuditFault → Type 0
IsAuditFault system steps requests rows (Row number) = IsFirstBreak system steps requests rows number
IsAuditFault system steps requests rows Unfinished = IsUnfinished system steps requests rows
IsAuditFault system steps requests rows Memory = Unit {0}
