-- A polled run between two of its calls.
use Rattle.std.specs.Prelude.{◌≡◌, ℕ, ◌≤◌, List, [], ◌∷◌, ◌++◌, All, Option, length, map, vec_capacity}
use Rattle.std.proofs.Common.{subst}
use Rattle.can_frame.specs.declared.data_frame.TimedFrame.{TimedFrame}
use Rattle.master_core.specs.Calls.{Call, call_of}
use Rattle.master_core.specs.declared.event.Event.{Event}
use Rattle.master_core.specs.History.{IsPlainlyLegal, next_of}
use Rattle.master_core.specs.Openings.{openings_of}
use Rattle.kept_run.specs.Progress.{IsUnderWay}
use Rattle.kept_run.specs.Setting.{IsSetting, Setting}
use Rattle.bus_trace.specs.EventRows.{rows_of_event}
use Rattle.bus_trace.specs.Log.{events_rows, triggers_in}
use Rattle.master_core.specs.Accepted.{all_accepted}
use Rattle.replay_run.specs.Progress.{IsGoing}
use Rattle.sporadic_poll.specs.declared.fate.Fate.{Fate}
use Rattle.sporadic_poll.specs.declared.stream.Stream.{Stream}
use Rattle.sporadic_poll.specs.Rides.{AreFates, AreRidesAt, HaveRidden}
use Rattle.poll_run.specs.declared.polled.Polled.{Polled}
use Rattle.poll_run.specs.PolledRun.{polled_setting}

-- so it is with whatever requests the instances take, by slot and release, if those of the cycles that the history opens
-- take theirs by *Ride*. Later instances may take what they will
abbrev pub SoFar : Setting → List Stream → List Event → ((ℕ → ℕ → Option ℕ) → Type 0) → Type 0
SoFar setting streams history Holds = (lengths carried : ℕ → ℕ → Option ℕ)
    → All (λ opening. AreRidesAt setting.layout.cycle streams opening lengths carried) (openings_of history) → Holds carried

-- the trace was told; the bus is going, without requests, with a trace in which each instance sends its number
pub record IsPolledGoing (setting : Setting) (streams : List Stream) (trace : List TimedFrame)
    (polled : Polled) : Type 0 where
  pub plain_trace : List TimedFrame
  pub going : IsGoing setting plain_trace polled.bus
  pub no_requests : setting.requests ≡ []
  pub same_layout : polled.layout ≡ setting.layout
  pub same_streams : polled.rides.queued.streams ≡ streams
  pub all_slots : length polled.rides.queued.next ≡ setting.rules.slots
  pub under_way : SoFar setting streams polled.bus.master.history
      (λ carried. IsUnderWay (polled_setting setting streams carried) polled.bus.master.history trace)
  pub ridden : SoFar setting streams polled.bus.master.history
      (λ carried. HaveRidden carried (next_of polled.bus.master.history) polled.rides)
  pub fates : SoFar setting streams polled.bus.master.history
      (λ carried. AreFates streams (openings_of polled.bus.master.history) carried polled.rides.fates)
  pub triggers : triggers_in trace ≡ next_of polled.bus.master.history
  pub room : 2128 ≤ vec_capacity polled.frames
  pub quiet : polled.quiet ≡ all_accepted polled.bus.master.history

-- a run is so with some setting, requests and trace
abbrev pub CanPoll : Polled → Type 0
CanPoll polled = (setting : Setting) × (streams : List Stream) × (trace : List TimedFrame)
    × IsPolledGoing setting streams trace polled

-- the run has answered one call more, with these frames, and the event's rows are what it adds to the run's rows
pub record IsPolledOn (setting : Setting) (streams : List Stream) (trace : List TimedFrame) (old new : Polled)
    (frames : List TimedFrame) (calls : List Call) : Type 0 where
  pub event : Event
  pub history : new.bus.master.history ≡ old.bus.master.history ++ event ∷ []
  pub answers : map call_of new.bus.master.history ≡ map call_of old.bus.master.history ++ calls
  pub polled : IsPolledGoing setting streams (trace ++ frames) new
  pub rows : events_rows (trace ++ frames) [] new.bus.master.history
      ≡ events_rows trace [] old.bus.master.history ++ rows_of_event event frames

-- so it is in each setting, with all requests and each trace with which the run was going
abbrev pub PollsOn : Polled → Polled → List TimedFrame → List Call → Type 0
PollsOn old new frames calls = (setting : Setting) (streams : List Stream) (trace : List TimedFrame)
    → IsPolledGoing setting streams trace old → IsPolledOn setting streams trace old new frames calls

-- what a polled run stands on
pub record PollSetting : Type 0 where
  pub setting : Setting
  pub streams : List Stream

-- its master has answered the calls of this history, with this trace
pub record IsPolledAt (on : PollSetting) (history : List Event) (trace : List TimedFrame) (polled : Polled) : Type 0 where
  pub history_is : polled.bus.master.history ≡ history
  pub is_polled : IsPolledGoing on.setting on.streams trace polled

-- what a history and a trace of a polled run keep: the trace is that of the history's cycles, whatever later instances
-- take, each change is planned when it is answered, and something became of each request
pub record IsPolledOnBus (on : PollSetting) (history : List Event) (trace : List TimedFrame) : Type 0 where
  pub known : IsSetting on.setting
  pub no_requests : on.setting.requests ≡ []
  pub plain : IsPlainlyLegal on.setting.rules history
  pub under_way : SoFar on.setting on.streams history
      (λ carried. IsUnderWay (polled_setting on.setting on.streams carried) history trace)
  pub fates : List Fate
  pub are : SoFar on.setting on.streams history (λ carried. AreFates on.streams (openings_of history) carried fates)

pub polled-on-bus : (on : PollSetting) (history : List Event) (trace : List TimedFrame) (polled : Polled) → IsPolledAt on history trace polled
    → IsPolledOnBus on history trace
polled-on-bus on history trace polled is = subst (λ h. IsPolledOnBus on h trace) is.history_is
    (record {
      known = is.is_polled.going.way.known;
      no_requests = is.is_polled.no_requests;
      plain = is.is_polled.going.plain;
      under_way = is.is_polled.under_way;
      fates = polled.rides.fates;
      are = is.is_polled.fates;
    })
