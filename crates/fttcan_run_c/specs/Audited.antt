-- What an audit that is called from C says of the four texts that it gets.
use Rattle.std.specs.Prelude.{◌≡◌, ◌⊎◌, ⊤, ℕ, List, Ok, Err}
use Rattle.async_window.specs.declared.request.Request.{Request}
use Rattle.requests_file.specs.RequestsFile.{requests_of}
use Rattle.requests_file.specs.declared.request_fault.RequestFault.{RequestFault}
use Rattle.steps_file.specs.StepsFile.{steps_of}
use Rattle.steps_file.specs.declared.step_fault.StepFault.{StepFault}
use Rattle.steps_file.specs.declared.steps.Step.{Step}
use Rattle.system_file.specs.SystemFile.{system_of}
use Rattle.system_file.specs.declared.system.System.{System}
use Rattle.system_file.specs.declared.system_fault.SystemFault.{SystemFault}
use Rattle.log_reader.specs.Row.{AreRowsOf, IsFirstFaultyRow}
use Rattle.log_reader.specs.declared.row.LogRow.{LogRow}
use Rattle.trace_audit.specs.Audit.{IsFirstBreak, IsUnfinished}
use Rattle.fttcan_run_c.specs.declared.audit.Stopped.{Stopped}
use Rattle.fttcan_run_c.specs.declared.audit.Stopped.TheVariants.{Memory, Text, Row, Unfinished}

-- the texts mean a system, steps, requests and rows of a log, of which this holds
pub record AreMeant (system_text steps_text log requests_text : List ℕ)
    (Holds : System → List Step → List Request → List LogRow → Type 0) : Type 0 where
  pub system : System
  pub steps : List Step
  pub requests : List Request
  pub rows : List LogRow
  pub is_system : system_of system_text ≡ Ok system
  pub are_steps : steps_of steps_text ≡ Ok steps
  pub are_requests : requests_of system.owners requests_text ≡ Ok requests
  pub are_rows : AreRowsOf log rows
  pub holds : Holds system steps requests rows

-- the text of requests is refused, for the owners of this system
pub record RefusesRequests (system_text requests_text : List ℕ) : Type 0 where
  pub system : System
  pub fault : RequestFault
  pub is_system : system_of system_text ≡ Ok system
  pub refused : requests_of system.owners requests_text ≡ Err fault

-- one of the texts is refused
abbrev pub IsTextRefused : List ℕ → List ℕ → List ℕ → List ℕ → Type 0
IsTextRefused system_text steps_text log requests_text =
    ((fault : SystemFault) × (system_of system_text ≡ Err fault))
    ⊎ ((fault : StepFault) × (steps_of steps_text ≡ Err fault))
    ⊎ ((number : ℕ) × IsFirstFaultyRow log number)
    ⊎ RefusesRequests system_text requests_text

-- an audit stopped at a text, which is then refused, or memory ran out
abbrev pub StopsFor : Type 0 → Stopped → Type 0
StopsFor refused Memory = ⊤
StopsFor refused Text = refused
StopsFor refused (Row number) = ⊥
StopsFor refused Unfinished = ⊥

-- what an audit says that does not answer that a log is one of a whole run
abbrev pub IsAuditStopped : List ℕ → List ℕ → List ℕ → List ℕ → Stopped → Type 0
IsAuditStopped system_text steps_text log requests_text Memory = ⊤
IsAuditStopped system_text steps_text log requests_text Text = IsTextRefused system_text steps_text log requests_text
IsAuditStopped system_text steps_text log requests_text (Row number) =
    AreMeant system_text steps_text log requests_text
    (λ system steps requests rows. IsFirstBreak system steps requests rows number)
IsAuditStopped system_text steps_text log requests_text Unfinished =
    AreMeant system_text steps_text log requests_text IsUnfinished
