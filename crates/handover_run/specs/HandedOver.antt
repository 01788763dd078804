-- A run whose master is replaced midway by its standby, from its first call to its last row.
use Rattle.std.specs.Prelude.{◌≡◌, ℕ, Bool, List}
use Rattle.can_frame.specs.declared.data_frame.TimedFrame.{TimedFrame}
use Rattle.async_window.specs.declared.request.Request.{Request}
use Rattle.steps_file.specs.declared.steps.Step.{Step}
use Rattle.system_file.specs.declared.system.System.{System}
use Rattle.master_core.specs.declared.event.Event.{Event}
use Rattle.bus_trace.specs.Log.{log_text}
use Rattle.master_core.specs.Accepted.{all_accepted}
use Rattle.replay_run.specs.Run.{IsRun}

-- the text is the log of the run of the steps, and this is whether each change was accepted
pub record IsHandedLog (system : System) (steps : List Step) (requests : List Request) (quiet : Bool) (text : List ℕ)
    : Type 0 where
  pub history : List Event
  pub trace : List TimedFrame
  pub run : IsRun system steps requests history trace
  pub text_is : text ≡ log_text history trace
  pub accepted : quiet ≡ all_accepted history
