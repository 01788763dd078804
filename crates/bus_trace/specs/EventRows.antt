-- The rows of one event, by the frames that follow it.
use Rattle.std.specs.Prelude.{◌≡◌, ◌≢◌, ℕ, ◌^◌, ◌<◌, ◌≤◌, List, [], ◌∷◌, All, length}
use Rattle.can_frame.specs.declared.data_frame.TimedFrame.{TimedFrame}
use Rattle.trigger_codec.specs.Bytes.{trigger_frame, width_told}
use Rattle.requirement_table.specs.Opening.{width_of}
use Rattle.master_core.specs.declared.event.Event.{Event}
use Rattle.master_core.specs.declared.event.Event.TheVariants.{Submit, Look, Open}
use Rattle.master_core.specs.History.{placed_of}
use Rattle.bus_trace.specs.LogRows.{opened_told, plan_told, verdict_told}
use Rattle.bus_trace.specs.Started.{started_in}
use Rattle.log_reader.specs.Row.{text_of_rows}
use Rattle.log_reader.specs.declared.row.LogRow.{LogRow}
use Rattle.log_reader.specs.declared.row.LogRow.TheVariants as row

-- the frames of an opened cycle: first its first trigger frame, which says some length of the synchronous window, and
-- then no other frame with identifier 0
pub record BeginsCycle (cycle mask : ℕ) (frames : List TimedFrame) : Type 0 where
  pub trigger : TimedFrame
  pub later : List TimedFrame
  pub frames_are : frames ≡ trigger ∷ later
  pub width : ℕ
  pub wide : width < 2 ^ 16
  pub says : trigger.frame ≡ trigger_frame cycle width mask
  pub others : All (λ sent. sent.frame.identifier ≢ 0) later

-- no frames follow an event that opens no cycle
abbrev pub HasItsFrames : Event → List TimedFrame → Type 0
HasItsFrames (Submit caller change from verdict trail) frames = frames ≡ []
HasItsFrames (Look caller next) frames = frames ≡ []
HasItsFrames (Open cycle mask) frames = BeginsCycle cycle mask frames

-- the length of the synchronous window that the first of these frames says, a trigger
abbrev pub width_told_in : List TimedFrame → ℕ
width_told_in [] = 0
width_told_in (trigger ∷ later) = width_told trigger.frame.bytes

-- the rows of an event and of these frames, where the synchronous window of the cycle that it opens has this length: a
-- change that is refused for a miss is followed by its plan up to the miss
abbrev pub told_at : ℕ → Event → List TimedFrame → List LogRow
told_at width (Submit caller change from verdict trail) frames =
    row.Submit caller from (verdict_told verdict) ∷ plan_told from trail
told_at width (Look caller next) frames = row.Look caller next ∷ []
told_at width (Open cycle mask) frames = opened_told cycle mask width frames

-- their text
abbrev pub rows_at : ℕ → Event → List TimedFrame → List ℕ
rows_at width event frames = text_of_rows (told_at width event frames)

-- the rows of an event and of the frames that follow it
abbrev pub told_of_event : Event → List TimedFrame → List LogRow
told_of_event event frames = told_at (width_told_in frames) event frames

-- their text
abbrev pub rows_of_event : Event → List TimedFrame → List ℕ
rows_of_event event frames = text_of_rows (told_of_event event frames)

-- after the events before it, the trigger of the cycle that the event opens says the length of the cycle's synchronous
-- window
abbrev pub SaysWidth : List TimedFrame → List Event → Event → Type 0
SaysWidth trace before (Submit caller change from verdict trail) = Unit {0}
SaysWidth trace before (Look caller next) = Unit {0}
SaysWidth trace before (Open cycle mask) =
    width_told_in (started_in cycle 0 trace)
    ≡ width_of (record { cycle = cycle; mask = mask; placed = placed_of before })

-- Words for contracts inside the crate

-- the first frame, where there is one, has the bytes that say the length of a window
abbrev pub HasWidth : List TimedFrame → Type 0
HasWidth [] = Unit {0}
HasWidth (trigger ∷ later) = 3 ≤ length trigger.frame.bytes
