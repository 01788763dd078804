-- What a standby is, and what it answers to what it is told. Cycles are elementary cycles, counted from 0, and lengths
-- are bit times.
use Rattle.std.specs.Prelude.{◌≡◌, ◌≢◌, ℕ, false, List, [], ◌∷◌, ◌++◌, Some, None, All}
use Rattle.can_frame.specs.DataFrame.{DataFrame}
use Rattle.trigger_kind.specs.Kind.{IsSlots}
use Rattle.bit_sets.specs.Sets.{has_bit}
use Rattle.requirement_table.specs.Table.{width_in}
use Rattle.change_protocol.specs.declared.operations.Change.{Change}
use Rattle.planner_policies.specs.Plan.{mask_at, pending_at}
use Rattle.admission_rules.specs.declared.Rules.{Rules}
use Rattle.admission.specs.declared.verdict.Verdict.{Verdict}
use Rattle.admission.specs.declared.verdict.Verdict.TheVariants.{Accepted}
use Rattle.admission.specs.Verdict.{IsRules, IsVerdict, is_accepted}
use Rattle.master_core.specs.declared.event.Event.{Event}
use Rattle.master_core.specs.declared.event.Event.TheVariants.{Submit, Open}
use Rattle.master_core.specs.History.{IsPlainlyLegal, next_of, placed_of, plan_of}
use Rattle.trigger_codec.specs.Bytes.{triggers_with}
use Rattle.standby.specs.declared.follow_fault.FollowFault.{FollowFault}
use Rattle.standby.specs.declared.follow_fault.FollowFault.TheVariants.{Refused, Trigger, Differs, Window, Memory}
use Rattle.standby.specs.Core.{Item, items_of}
use Rattle.trigger_codec.specs.Heard.{heard_of}

-- what contracts see of a standby: its rules and its history
pub record StandbyView : Type 0 where
  pub rules : Rules
  pub history : List Event

-- an event that leaves itself in the core: an opening, or an accepted change
abbrev pub IsInCore : Event → Type 0
IsInCore event = (item : Item) × (items_of event ≡ item ∷ [])

-- what holds of every standby: its history is plainly legal, and has accepted changes and openings alone
pub record IsStandby (rules : Rules) (history : List Event) : Type 0 where
  pub ranges : IsRules rules
  pub slots : IsSlots rules.slots
  pub plain : IsPlainlyLegal rules history
  pub core_alone : All IsInCore history

-- the verdict on a change by the standby's own table, planned from its own next cycle
abbrev pub IsOwnVerdict : StandbyView → Change → Verdict → Type 0
IsOwnVerdict standby change verdict =
    IsVerdict standby.rules (placed_of standby.history)
    (pending_at (plan_of standby.rules (placed_of standby.history)) (next_of standby.history))
    (next_of standby.history) (next_of standby.history) change verdict

-- what the plan of the standby's own table has for its next cycle: the slots, and the sum of their worst lengths
abbrev pub planned_of : StandbyView → ℕ
planned_of standby = mask_at (plan_of standby.rules (placed_of standby.history)) (next_of standby.history)

abbrev pub sum_of : StandbyView → ℕ
sum_of standby =
    width_in (placed_of standby.history) (next_of standby.history) (has_bit (planned_of standby))

-- the trigger frames that are due next
abbrev pub due_frames : StandbyView → List DataFrame
due_frames standby =
    triggers_with standby.rules.slots (next_of standby.history) (sum_of standby) (planned_of standby)

-- a change was followed: it is accepted by the standby's own table, and stands behind the history
pub record IsChanged (old : StandbyView) (caller : ℕ) (change : Change) (new : List Event) : Type 0 where
  pub first : ℕ
  pub length : ℕ
  pub verdict : IsOwnVerdict old change (Accepted first length)
  pub history : new ≡ old.history ++ Submit caller change (next_of old.history) (Accepted first length) [] ∷ []

-- why a change is not followed: the standby's own table refuses it, or there is no memory
abbrev pub IsChangeFault : StandbyView → Change → FollowFault → Type 0
IsChangeFault old change (Refused verdict) = IsOwnVerdict old change verdict × (is_accepted verdict ≡ false)
IsChangeFault old change (Trigger cycle) = ⊥
IsChangeFault old change (Differs cycle heard planned) = ⊥
IsChangeFault old change (Window l sum) = ⊥
IsChangeFault old change Memory = Unit {0}

-- an opening was followed: what is heard is what is due, and the cycle is opened by the standby's own plan
pub record IsOpened (old : StandbyView) (frames : List DataFrame) (new : List Event) : Type 0 where
  pub heard : heard_of old.rules.slots (next_of old.history) frames
      ≡ Some (record { l = sum_of old; mask = planned_of old })
  pub history : new ≡ old.history ++ Open (next_of old.history) (planned_of old) ∷ []

-- why an opening is not followed, the first of these: the frames are not the trigger of the next cycle; they flag other
-- slots than those that are planned; they flag these, and say another length than the sum of their worst lengths. Or
-- there is no memory
abbrev pub IsTriggerFault : StandbyView → List DataFrame → FollowFault → Type 0
IsTriggerFault old frames (Refused verdict) = ⊥
IsTriggerFault old frames (Trigger cycle) =
    (cycle ≡ next_of old.history)
    × (heard_of old.rules.slots (next_of old.history) frames ≡ None)
IsTriggerFault old frames (Differs cycle heard planned) =
    (cycle ≡ next_of old.history) × (planned ≡ planned_of old) × (heard ≢ planned)
    × ((l : ℕ) × (heard_of old.rules.slots (next_of old.history) frames ≡ Some (record { l = l; mask = heard })))
IsTriggerFault old frames (Window l sum) =
    (sum ≡ sum_of old) × (l ≢ sum)
    × (heard_of old.rules.slots (next_of old.history) frames ≡ Some (record { l = l; mask = planned_of old }))
IsTriggerFault old frames Memory = Unit {0}
