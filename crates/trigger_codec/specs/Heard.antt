-- What is heard of the trigger of a cycle. A trigger frame has the number of its cycle modulo 256, and the flags of slots;
-- the first one has the length of the cycle's synchronous window too, in bit times. What a frame says that is not the last
-- one is noted until the next one comes.
use Rattle.std.specs.Prelude.{◌≡◌, ◌≢◌, ℕ, ◌%◌, ◌≤◌, ◌==◌, ◌&&◌, Bool, nat_le, List, [], ◌∷◌, Option, Some, None, if◌then◌else◌}
use Rattle.profile.specs.Limits.{longest_window}
use Rattle.trigger_kind.specs.declared.Triggers.{Triggers}
use Rattle.trigger_kind.specs.declared.Triggers.TheVariants.{One, Two}
use Rattle.trigger_kind.specs.Kind.{opening_of, triggers_of}
use Rattle.can_frame.specs.DataFrame.{DataFrame}
use Rattle.trigger_codec.specs.declared.message.Second.{Second}
use Rattle.trigger_codec.specs.declared.message.Trigger.{Trigger}
use Rattle.trigger_codec.specs.declared.heard.Heard.{Heard}
use Rattle.trigger_codec.specs.Bytes.{flags_of_both, second_of, trigger_of}

-- what was heard of a cycle's trigger frames, of which the last one did not come yet: what the first one said, where it was
-- heard
abbrev pub Noted : Type 0
Noted = Option Trigger

-- a trigger that passes a test
abbrev pub passing : (Trigger → Bool) → Option Trigger → Option Trigger
passing fits None = None
passing fits (Some trigger) = if fits trigger then Some trigger else None

-- what a first trigger frame says of this cycle, where the frame is read as one: its window is at most so long, and its
-- byte 0 is that cycle modulo 256
abbrev pub first_heard : ℕ → ℕ → Option Trigger → Option Trigger
first_heard window cycle read =
    passing (λ trigger. nat_le trigger.l window && (trigger.low == cycle % 256)) read

-- what two trigger frames say together, where the first one was noted and the second one is of the same cycle: the
-- window of the first one, and the flags of both
abbrev pub joined : Noted → Option Second → Option Trigger
joined None second = None
joined (Some first) None = None
joined (Some first) (Some second) =
    if second.low == first.low then Some (record first { mask = flags_of_both first.mask second.mask }) else None

-- what the trigger frames of this cycle say, where the frame is the last of them and this was heard of those before
abbrev pub last_heard : Triggers → ℕ → ℕ → Noted → DataFrame → Option Trigger
last_heard One window cycle noted frame = first_heard window cycle (trigger_of frame)
last_heard Two window cycle noted frame = joined noted (second_of frame)

-- a first trigger frame that may be noted: it is not the last one, its window is at most so long, and its byte 0 is this
-- cycle modulo 256
pub record IsNoted (triggers : Triggers) (window cycle : ℕ) (trigger : Trigger) : Type 0 where
  pub more : opening_of triggers ≢ 0
  pub fits : trigger.l ≤ window
  pub same : trigger.low ≡ cycle % 256

-- what some frames say, where they are the trigger frames of this cycle
abbrev pub trigger_in : Triggers → ℕ → List DataFrame → Option Trigger
trigger_in One cycle [] = None
trigger_in One cycle (only ∷ []) = last_heard One longest_window cycle None only
trigger_in One cycle (first ∷ second ∷ more) = None
trigger_in Two cycle [] = None
trigger_in Two cycle (first ∷ []) = None
trigger_in Two cycle (first ∷ second ∷ []) =
    last_heard Two longest_window cycle (first_heard longest_window cycle (trigger_of first)) second
trigger_in Two cycle (first ∷ second ∷ third ∷ more) = None

-- the window and the slots that a trigger says
abbrev pub told : Option Trigger → Option Heard
told None = None
told (Some trigger) = Some (record { l = trigger.l; mask = trigger.mask })

-- what some frames say, where they are the trigger of the cycle of a table with so many slots
abbrev pub heard_of : ℕ → ℕ → List DataFrame → Option Heard
heard_of slots cycle frames = told (trigger_in (triggers_of slots) cycle frames)
