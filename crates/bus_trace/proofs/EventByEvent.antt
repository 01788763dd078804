-- The rows of a history, event by event.
use Rattle.std.proofs.Common.{◌≡◌, List, [], ◌∷◌, ◌++◌, refl, ap, ◌∙◌}
use Rattle.std.specs.List.{flat_map}
use Rattle.can_frame.specs.declared.data_frame.TimedFrame.{TimedFrame}
use Rattle.master_core.specs.declared.event.Event.{Event}
use Rattle.master_core.specs.declared.event.Event.TheVariants.{Submit, Look, Open}
use Rattle.master_core.specs.History.{AllAfter}
use Rattle.bus_trace.specs.EventRows.{SaysWidth, rows_of_event, told_of_event}
use Rattle.bus_trace.specs.Log.{event_rows, events_rows, started_in}
use Rattle.bus_trace.specs.LogRows.{event_told, events_told, opened_told}
use Rattle.log_reader.specs.Row.{text_of_rows}
use Rattle.bus_trace.specs.Logged.{frames_of_event}

one-event-told : (trace : List TimedFrame) (before : List Event) (event : Event) → SaysWidth trace before event
    → told_of_event event (frames_of_event trace event) ≡ event_told trace before event
one-event-told trace before (Submit caller change from verdict trail) says = refl
one-event-told trace before (Look caller next) says = refl
one-event-told trace before (Open cycle mask) says = ap (λ w. opened_told cycle mask w (started_in cycle 0 trace)) says

one-event : (trace : List TimedFrame) (before : List Event) (event : Event) → SaysWidth trace before event
    → rows_of_event event (frames_of_event trace event) ≡ event_rows trace before event
one-event trace before event says = ap text_of_rows (one-event-told trace before event says)

pub all-events : (trace : List TimedFrame) (before history : List Event) → AllAfter (SaysWidth trace) before history
    → flat_map (λ event. rows_of_event event (frames_of_event trace event)) history ≡ events_rows trace before history
all-events trace before [] says = refl
all-events trace before (event ∷ later) says =
    ap (λ l. l ++ flat_map (λ e. rows_of_event e (frames_of_event trace e)) later) (one-event trace before event says.0)
    ∙ ap (λ l. event_rows trace before event ++ l) (all-events trace (before ++ event ∷ []) later says.1)

pub all-events-told : (trace : List TimedFrame) (before history : List Event) → AllAfter (SaysWidth trace) before history
    → flat_map (λ event. told_of_event event (frames_of_event trace event)) history ≡ events_told trace before history
all-events-told trace before [] says = refl
all-events-told trace before (event ∷ later) says =
    ap (λ l. l ++ flat_map (λ e. told_of_event e (frames_of_event trace e)) later) (one-event-told trace before event says.0)
    ∙ ap (λ l. event_told trace before event ++ l) (all-events-told trace (before ++ event ∷ []) later says.1)
