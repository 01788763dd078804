-- What a standby that follows a run knows of it, and what it may be told next.
use Rattle.std.specs.Prelude.{◌≡◌, ℕ, ◌≤◌, true, List, ◌++◌, Option, Some, None, map}
use Rattle.can_frame.specs.DataFrame.{DataFrame}
use Rattle.can_frame.specs.declared.data_frame.TimedFrame.{TimedFrame}
use Rattle.change_protocol.specs.declared.operations.Change.{Change}
use Rattle.admission_rules.specs.declared.Rules.{Rules}
use Rattle.admission.specs.declared.verdict.Verdict.{Verdict}
use Rattle.admission.specs.Verdict.{is_accepted}
use Rattle.master_core.specs.declared.event.Event.{Event}
use Rattle.master_core.specs.declared.event.Event.TheVariants.{Submit, Look, Open}
use Rattle.master_core.specs.History.{IsLegal, IsRight, IsRightAnswer}
use Rattle.standby.specs.Core.{core_of}
use Rattle.standby.specs.Following.{StandbyView, due_frames}

-- it has the rules and the core of this history
pub record IsFollowing (rules : Rules) (whole : List Event) (standby : StandbyView) : Type 0 where
  pub same_rules : standby.rules ≡ rules
  pub same_core : core_of whole ≡ core_of standby.history

-- so it is with the standby, where it is there still
abbrev pub IsStillFollowing : Rules → List Event → Option StandbyView → Type 0
IsStillFollowing rules whole None = Unit {0}
IsStillFollowing rules whole (Some standby) = IsFollowing rules whole standby

-- the frames begin with the trigger frames that are due next
pub record HearsDue (standby : StandbyView) (frames : List TimedFrame) : Type 0 where
  pub later : List DataFrame
  pub begin : map (λ sent. sent.frame) frames ≡ due_frames standby ++ later

-- the change is accepted behind a legal history with the standby's core
pub record IsAcceptedBehind (standby : StandbyView) (change : Change) : Type 0 where
  pub whole : List Event
  pub same_core : core_of whole ≡ core_of standby.history
  pub legal : IsLegal standby.rules whole
  pub from : ℕ
  pub verdict : Verdict
  pub trail : List ℕ
  pub right : IsRightAnswer standby.rules whole change from verdict trail
  pub accepted : is_accepted verdict ≡ true

-- the event is right behind a legal history with the standby's core
pub record IsRightBehind (standby : StandbyView) (event : Event) : Type 0 where
  pub whole : List Event
  pub same_core : core_of whole ≡ core_of standby.history
  pub legal : IsLegal standby.rules whole
  pub right : IsRight standby.rules whole event

-- the event is that of an operator, 1 to 8, where it is a change
abbrev pub HasOperator : Event → Type 0
HasOperator (Submit caller change from verdict trail) = (1 ≤ caller) × (caller ≤ 8)
HasOperator (Look caller next) = Unit {0}
HasOperator (Open cycle mask) = Unit {0}
