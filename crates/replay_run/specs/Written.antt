-- What was put of a run whose rows are written while it goes on: a sink that tells its bytes is one who hears.
use Rattle.std.specs.Prelude.{◌≡◌, ℕ, List, Option, Some, Vec}
use Rattle.can_frame.specs.declared.data_frame.TimedFrame.{TimedFrame}
use Rattle.async_window.specs.declared.request.Request.{Request}
use Rattle.steps_file.specs.declared.steps.Step.{Step}
use Rattle.system_file.specs.declared.system.System.{System}
use Rattle.master_core.specs.declared.event.Event.{Event}
use Rattle.ftt_io.specs.Puts.{Puts, PutsPrefix}
use Rattle.bus_trace.specs.LastRows.{last_rows}
use Rattle.bus_trace.specs.Log.{log_text}
use Rattle.replay_run.specs.Progress.{KeepsFrames}
use Rattle.replay_run.specs.Run.{IsRun}
use Rattle.replay_run.specs.Whole.{IsCutOff, IsHeard}
use Rattle.replay_run.specs.declared.cut.Cut.{Cut}

-- a sink that tells these bytes took these rows, and tells those now
abbrev pub Took : Option (List ℕ) → List ℕ → Option (List ℕ) → Type 0
Took old rows new = Puts old new rows

-- it took the first bytes of the rows
abbrev pub TookFront : Option (List ℕ) → List ℕ → Option (List ℕ) → Type 0
TookFront old rows new = PutsPrefix old new rows

-- where `IsText` says that a text is that of a whole run, such a text was put
abbrev pub IsWritten : (List ℕ → Type 0) → Option (List ℕ) → Option (List ℕ) → Type 0
IsWritten IsText old new = IsHeard Took IsText old new

-- where `Begun` says that a history and a trace are those of a run of the first calls, a run was cut for this reason.
-- All rows of a run of the first calls were put, where memory ran out; or the first bytes of them, where the sink failed.
-- Or the sink failed, and the first bytes of the text of a whole run were put
abbrev pub IsRunCut : (List Event → List TimedFrame → Type 0) → (List ℕ → Type 0) → Option (List ℕ) → Option (List ℕ)
    → Cut → Type 0
IsRunCut Begun IsText old new why = IsCutOff Took TookFront Begun IsText old new why

-- the text is the log of the run of the steps with this history; where frames were kept, they are its trace
pub record IsKeptLog {B : Type 0} (system : System) (steps : List Step) (requests : List Request)
    (history : List Event) (kept : Option (Vec TimedFrame B)) (text : List ℕ) : Type 0 where
  pub trace : List TimedFrame
  pub run : IsRun system steps requests history trace
  pub frames : KeepsFrames kept trace
  pub text_is : text ≡ log_text history trace

-- these are the last rows of such a log, so many or all
pub record HasLastRows {B : Type 0} (system : System) (steps : List Step) (requests : List Request)
    (history : List Event) (kept : Option (Vec TimedFrame B)) (count : ℕ) (rows : List ℕ) : Type 0 where
  pub log : List ℕ
  pub is : IsKeptLog system steps requests history kept log
  pub last : rows ≡ last_rows (Some count) log
