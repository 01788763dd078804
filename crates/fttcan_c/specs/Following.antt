-- What a standby behind a handle follows, and what C is told. A standby is a core: the one with which a master goes on
-- that takes over from it.
use Rattle.std.specs.Prelude.{◌≡◌, ◌≢◌, ℕ, ◌+◌, ◌<◌, ◌≤◌, ◌⊎◌, ◌++◌, ◌∷◌, [], List, All, Bool, true, Option, Some, None}
use Rattle.profile.specs.Limits.{longest_window, openings_end}
use Rattle.can_frame.specs.DataFrame.{DataFrame}
use Rattle.bit_sets.specs.Sets.{has_bit}
use Rattle.requirement_table.specs.Table.{width_in}
use Rattle.planner_policies.specs.Plan.{mask_at}
use Rattle.change_protocol.specs.Applied.{IsChangedAt, applied}
use Rattle.change_protocol.specs.declared.operations.Change.{Change as TableChange}
use Rattle.admission.specs.declared.verdict.Verdict.{Verdict}
use Rattle.admission.specs.Verdict.{IsSafe, is_accepted}
use Rattle.master_core.specs.declared.answered.Answered.{Answered}
use Rattle.master_core.specs.declared.event.Event.{Event}
use Rattle.master_core.specs.declared.event.Event.TheVariants.{Open}
use Rattle.master_core.specs.Cores.{CoreView, IsStateOf, onward, opened}
use Rattle.master_core.specs.History.{IsLegal, IsRightAnswer}
use Rattle.trigger_codec.specs.Bytes.{triggers_with}
use Rattle.standby.specs.Core.{core_of}
use Rattle.trigger_codec.specs.Heard.{heard_of}
use Rattle.master_handle.specs.declared.held.HandleContent.{HandleContent}
use Rattle.master_handle.specs.declared.held.HandleContent.TheVariants.{Master, Standby}
use Rattle.fttcan_c.specs.declared.hearing.Astray.{Astray}
use Rattle.fttcan_c.specs.declared.hearing.Astray.TheVariants.{Silent, Flags, Window}
use Rattle.c_values.specs.declared.plain.FttFollow.{FttFollow}
use Rattle.c_values.specs.declared.plain.FttFrame.{FttFrame}
use Rattle.c_values.specs.declared.plain.FttOp.{FttOp}
use Rattle.c_values.specs.declared.plain.FttVerdict.{FttVerdict}
use Rattle.c_values.specs.declared.refusal.ExportRefusal.{ExportRefusal}
use Rattle.c_values.specs.declared.refusal.ExportRefusal.TheVariants as refused
use Rattle.fttcan_c.specs.Mastering.{IsCoreSubmitted, MayAsk}
use Rattle.c_values.specs.Plain.{IsFrameIn, change_of, frames_of}
use Rattle.c_values.specs.Told.{mask_told, told}

-- a standby is held
pub record HoldsStandby (held : HandleContent) : Type 0 where
  pub core : CoreView
  pub is : held ≡ Standby core

-- the cycle is the next one of a standby
pub record IsExpected (cycle : ℕ) (held : HandleContent) : Type 0 where
  pub core : CoreView
  pub is : held ≡ Standby core
  pub cycle_is : cycle ≡ core.cycle

-- a master goes on with the core of a standby; no change was answered by it yet
pub record IsStandbyTakenOver (standby master : HandleContent) : Type 0 where
  pub core : CoreView
  pub of : standby ≡ Standby core
  pub is : master ≡ Master core []

-- Changes

-- a standby was told a change: its core answers it as that of a master does, and C is told the verdict. It is accepted
-- or not
pub record IsChangeTold (accepted : Bool) (caller start : ℕ) (ops : List FttOp) (verdict : FttVerdict)
    (old new : HandleContent) : Type 0 where
  pub core : CoreView
  pub next : CoreView
  pub answered : Answered
  pub before : old ≡ Standby core
  pub after : new ≡ Standby next
  pub answer : IsCoreSubmitted caller (change_of start ops) core next answered
  pub accepted_is : is_accepted answered.verdict ≡ accepted
  pub verdict_is : verdict ≡ told answered.verdict

-- a change that was accepted takes effect in the cycle of its start, which was not opened yet: the table that it makes has
-- the entries from before, of which those that it ends have that cycle as their end, and behind them entries with no
-- earlier origin
pub record IsInEffect (change : TableChange) (core : CoreView) : Type 0 where
  pub ahead : core.cycle ≤ change.start
  pub changed : IsChangedAt change.start core.placed (applied core.placed change)

pub record TakesEffect (change : TableChange) (held : HandleContent) : Type 0 where
  pub core : CoreView
  pub is : held ≡ Standby core
  pub effect : IsInEffect change core

-- a change is due: a master with the same rules has accepted it after a history that has the openings and the accepted
-- changes of one after which the core is the state
pub record IsDue (change : TableChange) (core : CoreView) : Type 0 where
  pub own : List Event
  pub state : IsStateOf own core
  pub whole : List Event
  pub same_core : core_of whole ≡ core_of own
  pub legal : IsLegal core.rules whole
  pub from : ℕ
  pub verdict : Verdict
  pub trail : List ℕ
  pub right : IsRightAnswer core.rules whole change from verdict trail
  pub accepted : is_accepted verdict ≡ true

pub record IsDueChange (change : TableChange) (held : HandleContent) : Type 0 where
  pub core : CoreView
  pub is : held ≡ Standby core
  pub due : IsDue change core

-- why a standby does not judge a change: none is held; one is, and what is asked for is out of range; or neither, and
-- there is no memory
abbrev pub RefusesChangeTold : ℕ → List FttOp → HandleContent → ExportRefusal → Type 0
RefusesChangeTold caller ops held refused.Memory = HoldsStandby held × MayAsk caller ops
RefusesChangeTold caller ops held refused.Argument = HoldsStandby held × (MayAsk caller ops → ⊥)
RefusesChangeTold caller ops held refused.Table = ⊥
RefusesChangeTold caller ops held refused.State = ⊥
RefusesChangeTold caller ops held refused.Room = ⊥
RefusesChangeTold caller ops held refused.Miss = ⊥
RefusesChangeTold caller ops held refused.Closed = HoldsStandby held → ⊥
RefusesChangeTold caller ops held refused.Open = ⊥
RefusesChangeTold caller ops held refused.Text = ⊥
RefusesChangeTold caller ops held refused.No = ⊥

-- Triggers

-- what a core plans for its next cycle: the slots, and the sum of their worst lengths in bit times
abbrev pub planned_of : CoreView → ℕ
planned_of core = mask_at (onward core) 0

abbrev pub sum_of : CoreView → ℕ
sum_of core = width_in core.placed core.cycle (has_bit (planned_of core))

-- the window that the trigger of its next cycle says, where the master adds a reserve to the sum
abbrev pub window_of : ℕ → CoreView → ℕ
window_of reserve core = reserve + sum_of core

-- the trigger frames of its next cycle
abbrev pub due_frames : ℕ → CoreView → List DataFrame
due_frames reserve core = triggers_with core.rules.slots core.cycle (window_of reserve core) (planned_of core)

-- a trigger can tell this window
abbrev pub CanTell : ℕ → CoreView → Type 0
CanTell reserve core = (reserve ≡ 0) ⊎ (window_of reserve core ≤ longest_window)

-- a core followed an opening: what is heard is what it plans, with the reserve, and it opened the cycle. No deadline is
-- missed in it nor later. Whoever has the history of the core in mind has it with this opening behind it
pub record IsCoreFollowed (reserve : ℕ) (frames : List DataFrame) (old new : CoreView) : Type 0 where
  pub heard : heard_of old.rules.slots old.cycle frames
      ≡ Some (record { l = window_of reserve old; mask = planned_of old })
  pub after : new ≡ opened old
  pub safe : IsSafe old.rules old.placed old.cycle old.pending
  pub history : (history : List Event) → IsStateOf history old
      → IsStateOf (history ++ Open old.cycle (planned_of old) ∷ []) new

-- why it does not follow one, the first of these: the frames are not the trigger of its next cycle; they flag other
-- slots than those that are planned; they flag these, and say another window than the sum of their worst lengths with
-- the reserve
abbrev pub IsAstray : ℕ → CoreView → List DataFrame → Astray → Type 0
IsAstray reserve core frames (Silent cycle) =
    (cycle ≡ core.cycle) × (heard_of core.rules.slots core.cycle frames ≡ None)
IsAstray reserve core frames (Flags cycle heard planned) =
    (cycle ≡ core.cycle) × (planned ≡ planned_of core) × (heard ≢ planned)
    × ((l : ℕ) × (heard_of core.rules.slots core.cycle frames ≡ Some (record { l = l; mask = heard })))
IsAstray reserve core frames (Window l wanted) =
    (wanted ≡ window_of reserve core) × (l ≢ wanted)
    × (heard_of core.rules.slots core.cycle frames ≡ Some (record { l = l; mask = planned_of core }))

-- what a core does with trigger frames: it follows them, or stays as it is
abbrev pub IsHeardBy : ℕ → List DataFrame → CoreView → CoreView → Option Astray → Type 0
IsHeardBy reserve frames old new None = IsCoreFollowed reserve frames old new
IsHeardBy reserve frames old new (Some astray) = IsAstray reserve old frames astray × (new ≡ old)

-- what C is told of a trigger that is not followed
abbrev pub fault_told : Astray → FttFollow
fault_told (Silent cycle) =
    record { heard = mask_told 0; planned = mask_told 0; first = cycle; second = 0; kind = 0 }
fault_told (Flags cycle heard planned) =
    record { heard = mask_told heard; planned = mask_told planned; first = cycle; second = 0; kind = 1 }
fault_told (Window l wanted) =
    record { heard = mask_told 0; planned = mask_told 0; first = l; second = wanted; kind = 2 }

-- a standby whose next cycle may be opened heard trigger frames
pub record IsTriggerHeard (reserve : ℕ) (frames : List DataFrame) (astray : Option Astray) (old new : HandleContent) : Type 0 where
  pub core : CoreView
  pub next : CoreView
  pub before : old ≡ Standby core
  pub after : new ≡ Standby next
  pub near : core.cycle < openings_end
  pub heard : IsHeardBy reserve frames core next astray

-- a standby followed them
pub record IsFollowed (reserve : ℕ) (frames : List DataFrame) (old new : HandleContent) : Type 0 where
  pub core : CoreView
  pub next : CoreView
  pub before : old ≡ Standby core
  pub after : new ≡ Standby next
  pub near : core.cycle < openings_end
  pub followed : IsCoreFollowed reserve frames core next

-- a standby does not follow them, and C is told why
pub record IsNotFollowed (reserve : ℕ) (frames : List DataFrame) (fault : FttFollow) (held : HandleContent) : Type 0 where
  pub core : CoreView
  pub is : held ≡ Standby core
  pub near : core.cycle < openings_end
  pub astray : Astray
  pub why : IsAstray reserve core frames astray
  pub fault_is : fault ≡ fault_told astray

-- the frames are the trigger of the next cycle of a standby, which can tell the window with the reserve. Without a
-- reserve it always can
pub record AreDueFrames (reserve : ℕ) (frames : List DataFrame) (held : HandleContent) : Type 0 where
  pub core : CoreView
  pub is : held ≡ Standby core
  pub fits : CanTell reserve core
  pub due : frames ≡ due_frames reserve core

-- the next cycle of a core may be opened
abbrev pub CanFollow : CoreView → Type 0
CanFollow core = core.cycle < openings_end

pub record CanFollowMore (held : HandleContent) : Type 0 where
  pub core : CoreView
  pub is : held ≡ Standby core
  pub next : CanFollow core

-- why a core does not judge trigger frames: one of them is out of range; or none is, and no cycle may be opened any more
abbrev pub RefusesFrames : List FttFrame → CoreView → ExportRefusal → Type 0
RefusesFrames frames core refused.Memory = ⊥
RefusesFrames frames core refused.Argument = All IsFrameIn frames → ⊥
RefusesFrames frames core refused.Table = ⊥
RefusesFrames frames core refused.State = All IsFrameIn frames × (CanFollow core → ⊥)
RefusesFrames frames core refused.Room = ⊥
RefusesFrames frames core refused.Miss = ⊥
RefusesFrames frames core refused.Closed = ⊥
RefusesFrames frames core refused.Open = ⊥
RefusesFrames frames core refused.Text = ⊥
RefusesFrames frames core refused.No = ⊥

-- why a standby does not judge them: none is held; or one is, and its core does not
abbrev pub RefusesHearing : List FttFrame → HandleContent → ExportRefusal → Type 0
RefusesHearing frames held refused.Memory = ⊥
RefusesHearing frames held refused.Argument = HoldsStandby held × (All IsFrameIn frames → ⊥)
RefusesHearing frames held refused.Table = ⊥
RefusesHearing frames held refused.State = HoldsStandby held × All IsFrameIn frames × (CanFollowMore held → ⊥)
RefusesHearing frames held refused.Room = ⊥
RefusesHearing frames held refused.Miss = ⊥
RefusesHearing frames held refused.Closed = HoldsStandby held → ⊥
RefusesHearing frames held refused.Open = ⊥
RefusesHearing frames held refused.Text = ⊥
RefusesHearing frames held refused.No = ⊥
