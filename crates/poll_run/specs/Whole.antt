-- A polled run from its first call to its last row, and what became of its requests.
use Rattle.std.specs.Prelude.{◌≡◌, ℕ, Bool, List, Option}
use Rattle.can_frame.specs.declared.data_frame.TimedFrame.{TimedFrame}
use Rattle.sporadic_poll.specs.declared.fate.Fate.{Fate}
use Rattle.sporadic_poll.specs.declared.stream.Stream.{Stream}
use Rattle.sporadic_poll.specs.Rides.{AreFates}
use Rattle.steps_file.specs.declared.steps.Step.{Step}
use Rattle.system_file.specs.declared.system.System.{System}
use Rattle.master_core.specs.declared.event.Event.{Event}
use Rattle.master_core.specs.Openings.{openings_of}
use Rattle.bus_trace.specs.Log.{log_text}
use Rattle.master_core.specs.Accepted.{all_accepted}
use Rattle.poll_run.specs.PolledRun.{IsPolledBegun, IsPolledRun}
use Rattle.poll_run.specs.RequestRows.{IsPolledText}
use Rattle.poll_run.specs.declared.polled.Polled.{Polled}

-- the text is that of the polled run of the steps, and this is whether each change was accepted
pub record IsPollOutput (system : System) (steps : List Step) (streams : List Stream) (quiet : Bool) (text : List ℕ)
    : Type 0 where
  pub history : List Event
  pub carried : ℕ → ℕ → Option ℕ
  pub trace : List TimedFrame
  pub run : IsPolledRun system steps streams history carried trace
  pub is_text : IsPolledText streams history carried trace text
  pub accepted : quiet ≡ all_accepted history

-- the text is the log of the polled run of the steps, which knows what became of its requests, and whether each change was
-- accepted
pub record IsPollLog (system : System) (steps : List Step) (streams : List Stream) (polled : Polled) (text : List ℕ)
    : Type 0 where
  pub history : List Event
  pub carried : ℕ → ℕ → Option ℕ
  pub trace : List TimedFrame
  pub run : IsPolledRun system steps streams history carried trace
  pub text_is : text ≡ log_text history trace
  pub same_streams : polled.rides.queued.streams ≡ streams
  pub fates : AreFates streams (openings_of history) carried polled.rides.fates
  pub accepted : polled.quiet ≡ all_accepted history

-- a polled run of the first calls of the steps
pub record IsPolledRunBegun (system : System) (steps : List Step) (streams : List Stream) (history : List Event)
    (trace : List TimedFrame) : Type 0 where
  pub carried : ℕ → ℕ → Option ℕ
  pub begun : IsPolledBegun system steps streams history carried trace

-- the polled run of the steps, and what became of its requests
pub record IsRunWithFates (system : System) (steps : List Step) (streams : List Stream) (history : List Event)
    (trace : List TimedFrame) : Type 0 where
  pub carried : ℕ → ℕ → Option ℕ
  pub run : IsPolledRun system steps streams history carried trace
  pub fates : List Fate
  pub are : AreFates streams (openings_of history) carried fates
