-- A run whose log was heard, as a whole.
use Rattle.std.proofs.Common.{ℕ, List}
use Rattle.std.specs.List.{flat_map}
use Rattle.async_window.specs.declared.request.Request.{Request}
use Rattle.steps_file.specs.declared.steps.Step.{Step}
use Rattle.system_file.specs.declared.system.System.{System}
use Rattle.kept_run.proofs.Shared.{Promises}
use Rattle.replay_run.specs.Run.{calls_of, setting_of}
use Rattle.replay_run.specs.Runs.{HasRun}
use Rattle.replay_run.specs.Whole.{IsHeard, IsLogOf}
use Rattle.replay_run.proofs.Shared.{run-of}
use Rattle.handover_run.specs.declared.handed.Handed.{Handed}
use Rattle.handover_run.specs.Handed.{IsHanded, on-bus}
use Rattle.handover_run.specs.HandedOver.{IsHandedLog}

pub heard-whole : Promises → (system : System) (steps : List Step) (requests : List Request) {L : Type 0} (Heard : L → List ℕ → L → Type 0) (handed : Handed)
    (told now : L) → IsHeard Heard (IsLogOf (HasRun IsHanded (setting_of system requests) (flat_map calls_of steps) handed)) told now
    → IsHeard Heard (IsHandedLog system steps requests handed.quiet) told now
heard-whole laws system steps requests Heard handed told now heard =
    let is = heard.is in
    record {
      text = heard.text;
      is = record {
        history = is.history;
        trace = is.trace;
        run = run-of laws system steps requests is.history is.trace is.run.answers
            (on-bus (setting_of system requests) is.history is.trace handed is.run.keeps);
        text_is = is.text_is;
        accepted = is.run.keeps.quiet;
      };
      heard = heard.heard;
    }
