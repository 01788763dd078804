-- *Log text*: the text of a history and a trace, which is that of its rows. Each row is its fields, with a comma between
-- each two of them, and ends with one line feed; numbers are decimal without leading zeros. A set of slots has ten
-- hexadecimal digits where all its slots are below 40, and 24 otherwise.
use Rattle.std.specs.Prelude.{ℕ, List, [], ◌∷◌, ◌++◌, Option, Some, None, codes}
use Rattle.std.specs.Fmt.{decimal}
use Rattle.can_frame.specs.declared.data_frame.TimedFrame.{TimedFrame}
use Rattle.change_protocol.specs.Code.{code_of}
use Rattle.admission.specs.declared.verdict.Verdict.{Verdict}
use Rattle.admission.specs.declared.verdict.Verdict.TheVariants.{Malformed, Passed, Miss, Horizon, Accepted}
use Rattle.master_core.specs.declared.event.Event.{Event}
use Rattle.master_core.specs.History.{next_of}
use Rattle.log_reader.specs.Row.{row_text, text_of_rows}
use Rattle.log_reader.specs.declared.row.LogRow.TheVariants as row
use Rattle.bus_trace.specs.LogRows.{event_told}
pub use Rattle.bus_trace.specs.LogRows.{until_of}
pub use Rattle.bus_trace.specs.Started.{started_in, trigger_count_with, triggers_in}
unfoldable pub use Rattle.text_fields.specs.Hexadecimal.{hex_digits}
unfoldable pub use Rattle.text_fields.specs.MaskText.{mask_digits}

-- a last field, where there is one
abbrev pub last_field : Option ℕ → List ℕ
last_field None = []
last_field (Some number) = codes "," ++ decimal number

-- the fields of a verdict: `malformed,OP,WHY[,UNTIL]`, `passed,START,NEXT`, `miss,SLOT,RELEASE,CYCLE`,
-- `horizon,FROM,WALKED` or `accepted,FIRST,LENGTH`
abbrev pub verdict_fields : Verdict → List ℕ
verdict_fields (Malformed op why) =
    codes "malformed," ++ decimal op ++ codes "," ++ decimal (code_of why) ++ last_field (until_of why)
verdict_fields (Passed start next) = codes "passed," ++ decimal start ++ codes "," ++ decimal next
verdict_fields (Miss slot release cycle) =
    codes "miss," ++ decimal slot ++ codes "," ++ decimal release ++ codes "," ++ decimal cycle
verdict_fields (Horizon from walked) = codes "horizon," ++ decimal from ++ codes "," ++ decimal walked
verdict_fields (Accepted first length) = codes "accepted," ++ decimal first ++ codes "," ++ decimal length

-- the rows of an event, after the events before it
abbrev pub event_rows : List TimedFrame → List Event → Event → List ℕ
event_rows trace before event = text_of_rows (event_told trace before event)

-- the rows of events, after the events before them
abbrev pub events_rows : List TimedFrame → List Event → List Event → List ℕ
events_rows trace before [] = []
events_rows trace before (event ∷ later) =
    event_rows trace before event ++ events_rows trace (before ++ event ∷ []) later

-- the last row, with the number of opened cycles
abbrev pub end_row : ℕ → List ℕ
end_row next = row_text (row.End next)

-- *Log text*: the rows of the history's events in their order, and the last row
abbrev pub log_text : List Event → List TimedFrame → List ℕ
log_text history trace = events_rows trace [] history ++ end_row (next_of history)
