-- The rows of events end in a line feed.
use Rattle.std.proofs.Common.{◌≡◌, ◌∙◌, ℕ, List, [], ◌∷◌, ◌++◌, ap, codes, refl}
use Rattle.std.proofs.lemmas.List.Sums.{fold-append}
use Rattle.can_frame.specs.declared.data_frame.TimedFrame.{TimedFrame}
use Rattle.master_core.specs.declared.event.Event.{Event}
use Rattle.bus_trace.specs.EventRows.{rows_of_event, told_of_event}
use Rattle.bus_trace.specs.LastRows.{AreRows, last_byte}
use Rattle.bus_trace.specs.Log.{end_row}
use Rattle.log_reader.specs.Row.{row_line, row_text, text_of_rows}
use Rattle.log_reader.specs.declared.row.LogRow.{LogRow}
use Rattle.log_reader.specs.declared.row.LogRow.TheVariants as row

-- a line feed ends it, whatever stands before it
record Ends (text : List ℕ) : Type 0 where
  last : (before : ℕ) → last_byte before text ≡ 10

last-append : (before : ℕ) (first second : List ℕ) → last_byte before (first ++ second) ≡ last_byte (last_byte before first) second
last-append before first second = fold-append (λ last byte. byte) before first second

behind : (first : List ℕ) {second : List ℕ} → Ends second → Ends (first ++ second)
behind first {second = second} ends = record { last = λ before. last-append before first second ∙ ends.last (last_byte before first) }

feed : Ends (codes "\n")
feed = record { last = λ before. refl }

row-ends : (line : LogRow) → Ends (row_text line)
row-ends line = behind (row_line line) feed

-- whole rows behind whole rows
pub rows-append : (first second : List ℕ) → AreRows first → AreRows second → AreRows (first ++ second)
rows-append first second are also = last-append 10 first second ∙ ap (λ last. last_byte last second) are ∙ also

rows-are : (lines : List LogRow) → AreRows (text_of_rows lines)
rows-are [] = refl
rows-are (line ∷ later) = rows-append (row_text line) (text_of_rows later) ((row-ends line).last 10) (rows-are later)

pub event-rows : (event : Event) (frames : List TimedFrame) → AreRows (rows_of_event event frames)
event-rows event frames = rows-are (told_of_event event frames)

pub end-row : (next : ℕ) → AreRows (end_row next)
end-row next = (row-ends (row.End next)).last 10
