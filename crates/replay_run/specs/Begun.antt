-- A run of the first calls of steps.
use Rattle.std.specs.Prelude.{◌≡◌, List, ◌++◌, map}
use Rattle.std.specs.List.{flat_map}
use Rattle.can_frame.specs.declared.data_frame.TimedFrame.{TimedFrame}
use Rattle.async_window.specs.declared.request.Request.{Request}
use Rattle.steps_file.specs.declared.steps.Step.{Step}
use Rattle.system_file.specs.declared.system.System.{System}
use Rattle.master_core.specs.declared.event.Event.{Event}
use Rattle.master_core.specs.History.{IsPlainlyLegal}
use Rattle.kept_run.specs.Kept.{Kept}
use Rattle.master_core.specs.Calls.{Call, call_of}
use Rattle.replay_run.specs.Run.{calls_of, setting_of}

-- a run of the first calls of the steps: the history answers them, each change planned when it is answered, and history
-- and trace keep what is promised
pub record IsRunBegun (system : System) (steps : List Step) (requests : List Request)
    (history : List Event) (trace : List TimedFrame) : Type 0 where
  pub later : List Call
  pub answers : map call_of history ++ later ≡ flat_map calls_of steps
  pub plain : IsPlainlyLegal system.rules history
  pub kept : Kept (setting_of system requests) history trace
