-- *Rows of a log*: those of a history and a trace, as values.
use Rattle.std.specs.Prelude.{ℕ, ◌+◌, List, [], ◌∷◌, ◌++◌, Option, None, map}
use Rattle.can_frame.specs.declared.data_frame.TimedFrame.{TimedFrame}
use Rattle.change_protocol.specs.Code.{code_of}
use Rattle.change_protocol.specs.declared.malformed.Why.{Why}
use Rattle.change_protocol.specs.declared.malformed.Why.TheVariants.{SlotBusy}
use Rattle.requirement_table.specs.Opening.{width_of}
use Rattle.admission.specs.declared.verdict.Verdict.{Verdict}
use Rattle.admission.specs.declared.verdict.Verdict.TheVariants.{Malformed, Passed, Miss, Horizon, Accepted}
use Rattle.master_core.specs.declared.event.Event.{Event}
use Rattle.master_core.specs.declared.event.Event.TheVariants.{Submit, Look, Open}
use Rattle.master_core.specs.History.{next_of, placed_of}
use Rattle.bus_trace.specs.Started.{started_in}
use Rattle.log_reader.specs.Row.{opened_row}
use Rattle.log_reader.specs.declared.row.LogRow.{LogRow}
use Rattle.log_reader.specs.declared.row.LogRow.TheVariants as row
use Rattle.log_reader.specs.declared.row.LogVerdict.{LogVerdict}
use Rattle.log_reader.specs.declared.row.LogVerdict.TheVariants as told
use Rattle.log_reader.specs.declared.row.OpenRow.{OpenRow}

-- the cycle up to which a slot is in use, or in which its entry begins, where the reason of a refusal names one
abbrev pub until_of : Why → Option ℕ
until_of (SlotBusy until) = until
until_of _ = None

-- a verdict, as a row tells it
abbrev pub verdict_told : Verdict → LogVerdict
verdict_told (Malformed op why) = told.Malformed op (code_of why) (until_of why)
verdict_told (Passed start next) = told.Passed start next
verdict_told (Miss slot release cycle) = told.Miss slot release cycle
verdict_told (Horizon from walked) = told.Horizon from walked
verdict_told (Accepted first length) = told.Accepted first length

-- the rows of the plan that a refusal shows: one for each cycle from the first one on
abbrev pub plan_told : ℕ → List ℕ → List LogRow
plan_told cycle [] = []
plan_told cycle (mask ∷ later) = row.Plan cycle mask ∷ plan_told (cycle + 1) later

-- an opened cycle, as a row tells it, with its flagged slots and the length of its synchronous window
abbrev pub open_told : ℕ → ℕ → ℕ → OpenRow
open_told cycle mask width = record { cycle = cycle; mask = mask; width = width }

-- its row, and those of the frames that were sent in it
abbrev pub opened_told : ℕ → ℕ → ℕ → List TimedFrame → List LogRow
opened_told cycle mask width frames = opened_row (open_told cycle mask width) ∷ map row.Frame frames

-- the rows of an event, after the events before it: a change that is refused for a miss is followed by its plan up to
-- the miss, and an opening by the frames of its cycle
abbrev pub event_told : List TimedFrame → List Event → Event → List LogRow
event_told trace before (Submit caller change from verdict trail) =
    row.Submit caller from (verdict_told verdict) ∷ plan_told from trail
event_told trace before (Look caller next) = row.Look caller next ∷ []
event_told trace before (Open cycle mask) =
    opened_told cycle mask (width_of (record { cycle = cycle; mask = mask; placed = placed_of before }))
    (started_in cycle 0 trace)

-- the rows of events, after the events before them
abbrev pub events_told : List TimedFrame → List Event → List Event → List LogRow
events_told trace before [] = []
events_told trace before (event ∷ later) =
    event_told trace before event ++ events_told trace (before ++ event ∷ []) later

-- *Rows of a log*: those of the history's events in their order, and the last row, with the number of opened cycles
abbrev pub log_rows : List Event → List TimedFrame → List LogRow
log_rows history trace = events_told trace [] history ++ row.End (next_of history) ∷ []
