-- A run from its first call to its last row, of whose text something heard.
use Rattle.std.specs.Prelude.{◌≡◌, ℕ, ◌⊎◌, List, []}
use Rattle.can_frame.specs.declared.data_frame.TimedFrame.{TimedFrame}
use Rattle.master_core.specs.declared.event.Event.{Event}
use Rattle.bus_trace.specs.Log.{events_rows, log_text}
use Rattle.replay_run.specs.Runs.{HeardAt}
use Rattle.replay_run.specs.declared.cut.Cut.{Cut}
use Rattle.replay_run.specs.declared.cut.Cut.TheVariants.{Write}

-- the text is the log of a history and a trace that are those of a run, as `Run` says
pub record IsLogOf (Run : List Event → List TimedFrame → Type 0) (text : List ℕ) : Type 0 where
  pub history : List Event
  pub trace : List TimedFrame
  pub run : Run history trace
  pub text_is : text ≡ log_text history trace

-- where `IsText` says that a text is that of a whole run, such a text was heard
pub record IsHeard {L : Type 0} (Heard : L → List ℕ → L → Type 0) (IsText : List ℕ → Type 0) (old new : L)
    : Type 0 where
  pub text : List ℕ
  pub is : IsText text
  pub heard : Heard old text new

-- where `Begun` says that a history and a trace are those of a run of the first calls
module _ {L : Type 0} (Heard Broke : L → List ℕ → L → Type 0) (Begun : List Event → List TimedFrame → Type 0)
    (IsText : List ℕ → Type 0) (old new : L) where
  -- a run of the first calls, whose rows were heard, or the first of them
  pub record IsHeardInPart (why : Cut) : Type 0 where
    pub history : List Event
    pub trace : List TimedFrame
    pub begun : Begun history trace
    pub heard : HeardAt Heard Broke why old (events_rows trace [] history) new

  -- the whole run, in whose text the one who hears broke off
  pub record IsHeardToEnd (why : Cut) : Type 0 where
    pub text : List ℕ
    pub is : IsText text
    pub write : why ≡ Write
    pub broke : Broke old text new

  -- a run was cut short, or the hearing of the text of a whole run was
  abbrev pub IsCutOff : Cut → Type 0
  IsCutOff why = IsHeardInPart why ⊎ IsHeardToEnd why
