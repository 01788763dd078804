-- A polled run whose rows were heard, as a whole.
use Rattle.std.proofs.Common.{ℕ, List, [], Option, map, refl, sym, ap, ◌∙◌}
use Rattle.std.specs.List.{flat_map}
use Rattle.can_frame.specs.declared.data_frame.TimedFrame.{TimedFrame}
use Rattle.steps_file.specs.declared.steps.Step.{Step}
use Rattle.system_file.specs.declared.system.System.{System}
use Rattle.master_core.specs.Calls.{call_of}
use Rattle.master_core.specs.declared.event.Event.{Event}
use Rattle.master_core.specs.History.{IsPlainlyLegal}
use Rattle.master_core.specs.Openings.{openings_of}
use Rattle.kept_run.specs.Kept.{Kept}
use Rattle.kept_run.specs.Progress.{IsUnderWay}
use Rattle.kept_run.specs.Setting.{IsSetting, Setting}
use Rattle.kept_run.specs.Served.{ForgetsEnds}
use Rattle.bus_trace.specs.Log.{log_text}
use Rattle.replay_run.specs.Run.{calls_of, setting_of}
use Rattle.replay_run.specs.Runs.{AnswersAll, AnswersFirst, HasRun}
use Rattle.replay_run.specs.Whole.{IsHeard, IsLogOf}
use Rattle.sporadic_poll.specs.declared.fate.Fate.{Fate}
use Rattle.sporadic_poll.specs.declared.stream.Stream.{Stream}
use Rattle.sporadic_poll.specs.Rides.{AreFates}
use Rattle.poll_run.specs.declared.polled.Polled.{Polled}
use Rattle.poll_run.specs.PolledRun.{IsPolledTrace, polled_setting}
use Rattle.poll_run.specs.Polling.{IsPolledAt, IsPolledOnBus, PollSetting, SoFar}
use Rattle.poll_run.specs.Whole.{IsPollLog, IsPolledRunBegun, IsRunWithFates}
use Rattle.poll_run.proofs.Bytes.{polled-forgets}
use Rattle.poll_run.proofs.Carrying.{RideLaws, are-some, known-polled, of-rides, some_rides}

-- what laws of the crates below say of a run that is under way, and of *Ride*
pub record EndLaws : Type 0 where
  pub rides : RideLaws
  pub kept : (setting : Setting) (history : List Event) (trace : List TimedFrame) → IsSetting setting → ForgetsEnds setting.sends
      → IsUnderWay setting history trace → Kept setting history trace

module _ (laws : EndLaws) (system : System) (steps : List Step) (streams : List Stream) where
  abbrev pub start : PollSetting
  start = record { setting = setting_of system []; streams = streams }

  -- the requests that the instances take
  abbrev taken : List Event → ℕ → ℕ → Option ℕ
  taken history = some_rides system.layout.cycle streams (openings_of history)

  -- history and trace keep what is promised
  polled-trace : (history : List Event) (trace : List TimedFrame) → IsSetting start.setting → IsPlainlyLegal start.setting.rules history
      → SoFar start.setting streams history (λ carried. IsUnderWay (polled_setting start.setting streams carried) history trace)
      → IsPolledTrace system streams history (taken history) trace
  polled-trace history trace known plain way =
      let rides = are-some laws.rides start.setting streams history plain.legal in
      record {
        plain = plain;
        rides = rides;
        kept = laws.kept (polled_setting start.setting streams (taken history)) history trace (known-polled start.setting streams (taken history) known) (polled-forgets streams (taken history))
            (of-rides laws.rides start.setting streams history plain.legal
            (λ carried. IsUnderWay (polled_setting start.setting streams carried) history trace) (taken history) way rides);
      }

  -- a polled run that could not begin
  pub begun-at_once : IsSetting start.setting → ((carried : ℕ → ℕ → Option ℕ) → IsUnderWay (polled_setting start.setting streams carried) [] [])
      → IsPolledRunBegun system steps streams [] []
  begun-at_once known way = record {
    carried = taken [];
    begun = record {
      later = flat_map calls_of steps;
      answers = refl;
      polled = polled-trace [] [] known (record { legal = tt; now = tt }) (λ lengths carried all. way carried);
    };
  }

  -- one of the first calls of the steps
  pub begun-of : (history : List Event) (trace : List TimedFrame) → AnswersFirst IsPolledOnBus start (flat_map calls_of steps) history trace
      → IsPolledRunBegun system steps streams history trace
  begun-of history trace is = record {
    carried = taken history;
    begun = record {
      later = is.later;
      answers = is.answers;
      polled = polled-trace history trace is.keeps.known is.keeps.plain is.keeps.under_way;
    };
  }

  -- what became of the requests
  fates-of : (history : List Event) (fates : List Fate) → IsPlainlyLegal start.setting.rules history
      → SoFar start.setting streams history (λ carried. AreFates streams (openings_of history) carried fates)
      → AreFates streams (openings_of history) (taken history) fates
  fates-of history fates plain are =
      of-rides laws.rides start.setting streams history plain.legal (λ carried. AreFates streams (openings_of history) carried fates) (taken history)
      are (are-some laws.rides start.setting streams history plain.legal)

  -- one of all calls
  pub run-of : (history : List Event) (trace : List TimedFrame) → AnswersAll IsPolledOnBus start (flat_map calls_of steps) history trace
      → IsRunWithFates system steps streams history trace
  run-of history trace is = record {
    carried = taken history;
    run = record { answers = is.answers; polled = polled-trace history trace is.keeps.known is.keeps.plain is.keeps.under_way };
    fates = is.keeps.fates;
    are = fates-of history is.keeps.fates is.keeps.plain is.keeps.are;
  }

  -- and one whose whole log was heard
  pub heard-of : {L : Type 0} (Heard : L → List ℕ → L → Type 0) (polled : Polled) (told now : L)
      → IsHeard Heard (IsLogOf (HasRun IsPolledAt start (flat_map calls_of steps) polled)) told now
      → IsHeard Heard (IsPollLog system steps streams polled) told now
  heard-of Heard polled told now heard =
      let is = heard.is in
      let at = is.run.keeps in
      let history : List Event = polled.bus.master.history in
      let polls = at.is_polled in
      record {
        text = heard.text;
        is = record {
          history = history;
          carried = taken history;
          trace = is.trace;
          run = record {
            answers = ap (map call_of) at.history_is ∙ is.run.answers;
            polled = polled-trace history is.trace polls.going.way.known polls.going.plain polls.under_way;
          };
          text_is = is.text_is ∙ ap (λ (h : List Event). log_text h is.trace) (sym at.history_is);
          same_streams = polls.same_streams;
          fates = fates-of history polled.rides.fates polls.going.plain polls.fates;
          accepted = polls.quiet;
        };
        heard = heard.heard;
      }
