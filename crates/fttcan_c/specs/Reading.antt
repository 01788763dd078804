-- What C is told of a master, which stays as it is.
use Rattle.std.specs.Prelude.{◌≡◌, ℕ, ◌<◌, ◌≤◌, ◌++◌, ◌∷◌, [], List, map}
use Rattle.profile.specs.Limits.{openings_end}
use Rattle.planner_policies.specs.Plan.{mask_at}
use Rattle.plan_check.specs.Certificate.{CertificateView}
use Rattle.plan_check.specs.PlanKept.{IsTaken}
use Rattle.plan_check.specs.PlanText.{IsTextOfPlan, plan_text}
use Rattle.admission.specs.Certified.{IsCertificateFrom}
use Rattle.master_core.specs.declared.event.Event.{Event}
use Rattle.master_core.specs.declared.event.Event.TheVariants.{Look}
use Rattle.master_core.specs.Cores.{CoreView, IsCore, IsStateOf, onward, state_of}
use Rattle.master_handle.specs.declared.held.HandleContent.{HandleContent}
use Rattle.master_handle.specs.declared.held.HandleContent.TheVariants.{Master}
use Rattle.c_values.specs.declared.plain.FttMask.{FttMask}
use Rattle.c_values.specs.declared.plain.FttPlaced.{FttPlaced}
use Rattle.c_values.specs.declared.plain.FttRules.{FttRules}
use Rattle.c_values.specs.declared.refusal.ExportRefusal.{ExportRefusal}
use Rattle.c_values.specs.declared.refusal.ExportRefusal.TheVariants as refused
use Rattle.fttcan_c.specs.Checked.{IsPlanTaken}
use Rattle.fttcan_c.specs.Mastering.{HoldsMaster, IsCaller}
use Rattle.c_values.specs.Plain.{mask_of}
use Rattle.c_values.specs.Told.{mask_told, put_of, rules_told}

-- the cycle is the next one of a master
pub record IsNextOf (cycle : ℕ) (held : HandleContent) : Type 0 where
  pub core : CoreView
  pub trail : List ℕ
  pub is : held ≡ Master core trail
  pub cycle_is : cycle ≡ core.cycle

-- an operator looked at it; whoever has the history of the master in mind has it with this look behind it
pub record IsLookedAt (caller cycle : ℕ) (held : HandleContent) : Type 0 where
  pub core : CoreView
  pub trail : List ℕ
  pub is : held ≡ Master core trail
  pub cycle_is : cycle ≡ core.cycle
  pub history : (history : List Event) → IsStateOf history core → IsStateOf (history ++ Look caller cycle ∷ []) core

-- the slots that would be flagged now, in a cycle that may be opened
pub record IsPlannedOf (flags : FttMask) (held : HandleContent) : Type 0 where
  pub core : CoreView
  pub trail : List ℕ
  pub is : held ≡ Master core trail
  pub near : core.cycle < openings_end
  pub flags_are : mask_of flags ≡ mask_at (onward core) 0

pub record IsRulesOf (rules : FttRules) (held : HandleContent) : Type 0 where
  pub core : CoreView
  pub trail : List ℕ
  pub is : held ≡ Master core trail
  pub rules_are : rules ≡ rules_told core.rules

-- the placed entries that are kept, of a core that misses no deadline at any later cycle
pub record HasTable (list : List FttPlaced) (held : HandleContent) : Type 0 where
  pub core : CoreView
  pub trail : List ℕ
  pub is : held ≡ Master core trail
  pub list_is : list ≡ map put_of core.placed
  pub safe : IsCore core

-- the trail of the last answer
pub record HasTrail (masks : List FttMask) (held : HandleContent) : Type 0 where
  pub core : CoreView
  pub trail : List ℕ
  pub is : held ≡ Master core trail
  pub masks_are : masks ≡ map mask_told trail

-- the text is that of a plan of the placed entries that goes on from the next cycle, with the slots pending that are
-- pending before it, up to the end of its first repeat. It keeps the entries for ever, and is read back. So the checker
-- takes the text with these entries and the window of the rules
pub record IsPlanTextOf (text : List ℕ) (core : CoreView) : Type 0 where
  pub certificate : CertificateView
  pub onward : IsCertificateFrom core.rules core.placed (state_of core) certificate
  pub taken : IsTaken core.placed core.rules.window certificate
  pub text_is : text ≡ plan_text certificate
  pub read : IsTextOfPlan text certificate
  pub safe : IsCore core
  pub checked : IsPlanTaken core.placed core.rules.window text

-- so it is of a master
pub record HasPlanText (text : List ℕ) (held : HandleContent) : Type 0 where
  pub core : CoreView
  pub trail : List ℕ
  pub is : held ≡ Master core trail
  pub of : IsPlanTextOf text core

-- why a master is not read: none is held; or one is, and there is no memory
abbrev pub RefusesRead : HandleContent → ExportRefusal → Type 0
RefusesRead held refused.Memory = HoldsMaster held
RefusesRead held refused.Argument = ⊥
RefusesRead held refused.Table = ⊥
RefusesRead held refused.State = ⊥
RefusesRead held refused.Room = ⊥
RefusesRead held refused.Miss = ⊥
RefusesRead held refused.Closed = HoldsMaster held → ⊥
RefusesRead held refused.Open = ⊥
RefusesRead held refused.Text = ⊥
RefusesRead held refused.No = ⊥

-- why an operator does not look at a master: none is held; or one is, and the operator is out of range
abbrev pub RefusesLook : ℕ → HandleContent → ExportRefusal → Type 0
RefusesLook caller held refused.Memory = ⊥
RefusesLook caller held refused.Argument = HoldsMaster held × (IsCaller caller → ⊥)
RefusesLook caller held refused.Table = ⊥
RefusesLook caller held refused.State = ⊥
RefusesLook caller held refused.Room = ⊥
RefusesLook caller held refused.Miss = ⊥
RefusesLook caller held refused.Closed = HoldsMaster held → ⊥
RefusesLook caller held refused.Open = ⊥
RefusesLook caller held refused.Text = ⊥
RefusesLook caller held refused.No = ⊥
