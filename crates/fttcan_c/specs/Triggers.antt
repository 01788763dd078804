-- The trigger frames of a cycle, as C has them.
use Rattle.std.specs.Prelude.{◌≡◌, ℕ, ◌+◌, ◌<◌, List, [], ◌∷◌, All, Some, None}
use Rattle.profile.specs.Limits.{first_slots, most_slots}
use Rattle.can_frame.specs.DataFrame.{DataFrame}
use Rattle.trigger_kind.specs.Kind.{IsSlots}
use Rattle.trigger_codec.specs.Bytes.{triggers_with}
use Rattle.trigger_codec.specs.Heard.{heard_of}
use Rattle.c_values.specs.declared.plain.FttFrame.{FttFrame}
use Rattle.c_values.specs.declared.plain.FttTrigger.{FttTrigger}
use Rattle.c_values.specs.declared.refusal.ExportRefusal.{ExportRefusal}
use Rattle.c_values.specs.declared.refusal.ExportRefusal.TheVariants.{Memory, Argument, Table, State, Room, Miss, Closed, Open, Text, No}
use Rattle.c_values.specs.Plain.{IsFrameIn, frame_of, frames_of, mask_of}

-- the frames that tell a trigger
abbrev pub frames_told : ℕ → FttTrigger → List DataFrame
frames_told slots trigger = triggers_with slots trigger.cycle trigger.window (mask_of trigger.flags)

-- the trigger with a reserve added to its window
abbrev pub with_reserve : ℕ → FttTrigger → FttTrigger
with_reserve reserve trigger = record trigger { window = trigger.window + reserve }

-- the trigger is what these frames say of a cycle, which is known modulo 256
pub record IsTriggerTold (slots : ℕ) (frames : List DataFrame) (trigger : FttTrigger) : Type 0 where
  pub low : trigger.cycle < 256
  pub heard : heard_of slots trigger.cycle frames
      ≡ Some (record { l = trigger.window; mask = mask_of trigger.flags })

-- the frames are the trigger of no cycle
abbrev pub IsNoTrigger : ℕ → List DataFrame → Type 0
IsNoTrigger slots frames = (cycle : ℕ) → heard_of slots cycle frames ≡ None

-- why frames are not read as a trigger: there is no such number of slots, or one of them is out of range; or all this is
-- in range, and they are no trigger
abbrev pub RefusesTrigger : ℕ → List FttFrame → ExportRefusal → Type 0
RefusesTrigger slots frames Memory = ⊥
RefusesTrigger slots frames Argument = IsSlots slots × (All IsFrameIn frames) → ⊥
RefusesTrigger slots frames Table = ⊥
RefusesTrigger slots frames State = ⊥
RefusesTrigger slots frames Room = ⊥
RefusesTrigger slots frames Miss = ⊥
RefusesTrigger slots frames Closed = ⊥
RefusesTrigger slots frames Open = ⊥
RefusesTrigger slots frames Text = IsSlots slots × All IsFrameIn frames × IsNoTrigger slots (frames_of frames)
RefusesTrigger slots frames No = ⊥

-- the same of one frame, with as many slots as it flags, and of two

abbrev pub RefusesOne : FttFrame → ExportRefusal → Type 0
RefusesOne only refusal = RefusesTrigger first_slots (only ∷ []) refusal

abbrev pub RefusesTwo : FttFrame → FttFrame → ExportRefusal → Type 0
RefusesTwo first second refusal = RefusesTrigger most_slots (first ∷ second ∷ []) refusal
