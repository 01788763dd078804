-- A run of steps in which polled slots carry requests of a streams file.
use Rattle.std.specs.Prelude.{◌≡◌, ℕ, List, [], ◌++◌, Option, map}
use Rattle.std.specs.List.{flat_map}
use Rattle.can_frame.specs.declared.data_frame.TimedFrame.{TimedFrame}
use Rattle.sporadic_poll.specs.declared.stream.Stream.{Stream}
use Rattle.sporadic_poll.specs.Polled.{AreRides, polled_bytes}
use Rattle.steps_file.specs.declared.steps.Step.{Step}
use Rattle.system_file.specs.declared.system.System.{System}
use Rattle.master_core.specs.Calls.{Call, call_of}
use Rattle.master_core.specs.declared.event.Event.{Event}
use Rattle.master_core.specs.History.{IsPlainlyLegal}
use Rattle.master_core.specs.Openings.{openings_of}
use Rattle.kept_run.specs.Kept.{Kept}
use Rattle.kept_run.specs.Setting.{Setting}
use Rattle.replay_run.specs.Run.{AnswersSteps, calls_of, setting_of}

-- a setting, where the instances of polled slots carry these requests, by slot and release
abbrev pub polled_setting : Setting → List Stream → (ℕ → ℕ → Option ℕ) → Setting
polled_setting setting streams carried = record setting { sends = polled_bytes streams carried }

-- what a history and a trace keep where the instances of polled slots carry these requests, by slot and release. Each
-- change is planned when it is answered, and the requests are carried by *Ride*. *Kept* holds with their bytes, where no
-- frame is sent but those of the trigger and of slots
pub record IsPolledTrace (system : System) (streams : List Stream) (history : List Event) (carried : ℕ → ℕ → Option ℕ)
    (trace : List TimedFrame) : Type 0 where
  pub plain : IsPlainlyLegal system.rules history
  pub rides : AreRides system.layout.cycle streams (openings_of history) carried
  pub kept : Kept (polled_setting (setting_of system []) streams carried) history trace

-- *Polled run*: the history answers the steps, and history and trace keep what is promised
pub record IsPolledRun (system : System) (steps : List Step) (streams : List Stream) (history : List Event)
    (carried : ℕ → ℕ → Option ℕ) (trace : List TimedFrame) : Type 0 where
  pub answers : AnswersSteps history steps
  pub polled : IsPolledTrace system streams history carried trace

-- a polled run of the first calls of the steps
pub record IsPolledBegun (system : System) (steps : List Step) (streams : List Stream) (history : List Event)
    (carried : ℕ → ℕ → Option ℕ) (trace : List TimedFrame) : Type 0 where
  pub later : List Call
  pub answers : map call_of history ++ later ≡ flat_map calls_of steps
  pub polled : IsPolledTrace system streams history carried trace
