-- The run of a steps file: which calls of a master the steps make, and what answers them.
use Rattle.std.specs.Prelude.{◌≡◌, List, [], ◌∷◌, map, replicate}
use Rattle.std.specs.List.{flat_map}
use Rattle.can_frame.specs.declared.data_frame.TimedFrame.{TimedFrame}
use Rattle.requirement_table.specs.Instance.{bytes_of}
use Rattle.async_window.specs.declared.request.Request.{Request}
use Rattle.steps_file.specs.declared.steps.Step.{Step}
use Rattle.steps_file.specs.declared.steps.Step.TheVariants as step
use Rattle.system_file.specs.declared.system.System.{System}
use Rattle.master_core.specs.Calls.{Call, asked, call_of, opens}
use Rattle.master_core.specs.declared.event.Event.{Event}
use Rattle.master_core.specs.History.{IsPlainlyLegal}
use Rattle.kept_run.specs.Kept.{Kept}
use Rattle.kept_run.specs.Setting.{Setting}

-- the calls that a step makes: one, or as many openings as it counts
abbrev pub calls_of : Step → List Call
calls_of (step.Cycle count) = replicate count opens
calls_of (step.Act caller act) = asked caller act ∷ []

-- the events answer the calls of the steps, in their order, each once
abbrev pub AnswersSteps : List Event → List Step → Type 0
AnswersSteps history steps = map call_of history ≡ flat_map calls_of steps

-- what a system and its requests give a run to stand on: each instance sends its number
abbrev pub setting_of : System → List Request → Setting
setting_of system requests = record {
  rules = system.rules;
  layout = system.layout;
  owners = system.owners;
  requests = requests;
  sends = bytes_of;
}

-- *Run*: the history answers the steps, each change planned when it is answered, and history and trace keep what is
-- promised
pub record IsRun (system : System) (steps : List Step) (requests : List Request)
    (history : List Event) (trace : List TimedFrame) : Type 0 where
  pub answers : AnswersSteps history steps
  pub plain : IsPlainlyLegal system.rules history
  pub kept : Kept (setting_of system requests) history trace
