-- The text of a log is the text of its rows.
use Rattle.std.proofs.Common.{◌≡◌, ℕ, List, [], ◌∷◌, ◌++◌, refl, ap, ◌∙◌}
use Rattle.std.proofs.lemmas.List.{append-nil}
use Rattle.std.proofs.lemmas.List.Concat.{flat_map-append}
use Rattle.can_frame.specs.declared.data_frame.TimedFrame.{TimedFrame}
use Rattle.master_core.specs.declared.event.Event.{Event}
use Rattle.master_core.specs.History.{next_of}
use Rattle.bus_trace.specs.Log.{end_row, event_rows, events_rows, log_text}
use Rattle.bus_trace.specs.LogRows.{event_told, events_told, log_rows}
use Rattle.log_reader.specs.Row.{row_text, text_of_rows}
use Rattle.log_reader.specs.declared.row.LogRow.TheVariants as row

-- the last row
pub end-told : (next : ℕ) → text_of_rows (row.End next ∷ []) ≡ end_row next
end-told next = append-nil (row_text (row.End next))

events-told : (trace : List TimedFrame) (before events : List Event) → text_of_rows (events_told trace before events) ≡ events_rows trace before events
events-told trace before [] = refl
events-told trace before (event ∷ events) =
    flat_map-append row_text (event_told trace before event) (events_told trace (before ++ event ∷ []) events)
    ∙ ap (λ l. event_rows trace before event ++ l) (events-told trace (before ++ event ∷ []) events)

pub log-told : (history : List Event) (trace : List TimedFrame) → text_of_rows (log_rows history trace) ≡ log_text history trace
log-told history trace =
    let last = row.End (next_of history) in
    flat_map-append row_text (events_told trace [] history) (last ∷ [])
    ∙ ap (λ l. text_of_rows (events_told trace [] history) ++ l) (end-told (next_of history))
    ∙ ap (λ l. l ++ end_row (next_of history)) (events-told trace [] history)
