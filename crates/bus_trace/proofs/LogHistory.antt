-- The rows of a history, event by event, and what is known of each event at its place.
use Rattle.std.proofs.Common.{◌≡◌, ℕ, suc, ◌+◌, ◌^◌, ◌<◌, ◌≤◌, Bool, true, false, cond, List, [], ◌∷◌, ◌++◌, All, take, drop, length, get_or, refl, sym, ap, subst, ◌∙◌, arith, append_assoc}
use Rattle.std.proofs.lemmas.List.{append-nil, take_more, take-append-drop}
use Rattle.std.proofs.Math.Seq.{drop-cons}
use Rattle.std.proofs.lemmas.List.Elements.{All-append}
use Rattle.std.proofs.lemmas.List.Sums.{fold-append, sum_by_push}
use Rattle.can_frame.specs.declared.data_frame.TimedFrame.{TimedFrame}
use Rattle.requirement_table.specs.declared.entries.Placed.{Placed}
use Rattle.bit_sets.specs.Sets.{has_bit}
use Rattle.requirement_table.specs.Table.{IsWellPlaced, width_in}
use Rattle.change_protocol.specs.declared.operations.Change.{Change}
use Rattle.change_protocol.specs.Applied.{applied}
use Rattle.change_protocol.specs.Malformed.{faults}
use Rattle.change_protocol.specs.Pruned.{pruned}
use Rattle.change_protocol.proofs.Shared.{faults-pruned, pruned-again}
use Rattle.admission_rules.specs.declared.Rules.{Rules}
use Rattle.admission.specs.declared.verdict.Verdict.{Verdict}
use Rattle.admission.specs.declared.verdict.Verdict.TheVariants.{Malformed, Passed, Miss, Horizon, Accepted}
use Rattle.admission.specs.Verdict.{IsRules, IsVerdict, bounds_by, is_accepted}
use Rattle.master_core.specs.declared.event.Event.{Event}
use Rattle.master_core.specs.declared.event.Event.TheVariants.{Submit, Look, Open}
use Rattle.master_core.specs.History.{AllAfter, IsLegal, IsRight, is_open, next_of, placed_after, placed_of}
use Rattle.master_core.proofs.Shared.{sound-of_legal}
use Rattle.bus_trace.specs.Log.{event_rows, events_rows}
use Rattle.bus_trace.specs.Logged.{HasEntries, IsEventNear, IsFormed, IsFormedIn, IsInTurn, IsLeft, frames_of_event, rows_with, told_with}
use Rattle.bus_trace.specs.LogRows.{event_told, events_told, opened_told}
use Rattle.log_reader.specs.Row.{IsLogRow, text_of_rows}
use Rattle.bus_trace.proofs.Width.{width-pruned}

-- Rows

-- by the entries that are kept a cycle has its synchronous window
width-kept : (before : List Event) (cycle mask next : ℕ) (kept : List Placed) → HasEntries (placed_of before) next kept → cycle ≡ next
    → width_in kept cycle (has_bit mask) ≡ width_in (placed_of before) cycle (has_bit mask)
width-kept before cycle mask next kept entries turn =
    let early = entries.held.early in
    ap (λ l. width_in l cycle (has_bit mask)) entries.held.is
    ∙ width-pruned entries.held.by cycle (placed_of before) (has_bit mask) (omega (arith, early, turn))

-- the rows of an event by these entries
told_with-event : (trace : List TimedFrame) (before : List Event) (event : Event) (next : ℕ) (kept : List Placed)
    → HasEntries (placed_of before) next kept → IsInTurn next event
    → told_with kept (frames_of_event trace event) event ≡ event_told trace before event
told_with-event trace before (Submit caller change from verdict trail) next kept entries turn = refl
told_with-event trace before (Look caller looked) next kept entries turn = refl
told_with-event trace before (Open cycle mask) next kept entries turn =
    ap (λ w. opened_told cycle mask w (frames_of_event trace (Open cycle mask))) (width-kept before cycle mask next kept entries turn)

-- and their text
rows_with-event : (trace : List TimedFrame) (before : List Event) (event : Event) (next : ℕ) (kept : List Placed)
    → HasEntries (placed_of before) next kept → IsInTurn next event
    → rows_with kept (frames_of_event trace event) event ≡ event_rows trace before event
rows_with-event trace before event next kept entries turn = ap text_of_rows (told_with-event trace before event next kept entries turn)

-- the rows of later events come behind, and those of the last event last
pub events_rows-append : (trace : List TimedFrame) (before events later : List Event)
    → events_rows trace before (events ++ later) ≡ events_rows trace before events ++ events_rows trace (before ++ events) later
events_rows-append trace before [] later = ap (λ b. events_rows trace b later) (sym (append-nil before))
events_rows-append trace before (first ∷ events) later =
    ap (λ l. event_rows trace before first ++ l) (events_rows-append trace (before ++ first ∷ []) events later
    ∙ ap (λ b. events_rows trace (before ++ first ∷ []) events ++ events_rows trace b later) (append_assoc before (first ∷ []) events))
    ∙ sym (append_assoc (event_rows trace before first) _ _)

pub events_rows-push : (trace : List TimedFrame) (before events : List Event) (event : Event)
    → events_rows trace before (events ++ event ∷ []) ≡ events_rows trace before events ++ event_rows trace (before ++ events) event
events_rows-push trace before events event =
    events_rows-append trace before events (event ∷ []) ∙ ap (λ l. events_rows trace before events ++ l) (append-nil (event_rows trace (before ++ events) event))

events_told-push : (trace : List TimedFrame) (before events : List Event) (event : Event)
    → events_told trace before (events ++ event ∷ []) ≡ events_told trace before events ++ event_told trace (before ++ events) event
events_told-push trace before [] event = append-nil _ ∙ ap (λ b. event_told trace b event) (sym (append-nil before))
events_told-push trace before (first ∷ events) event =
    ap (λ l. event_told trace before first ++ l) (events_told-push trace (before ++ first ∷ []) events event
    ∙ ap (λ b. events_told trace (before ++ first ∷ []) events ++ event_told trace b event) (append_assoc before (first ∷ []) events))
    ∙ sym (append_assoc (event_told trace before first) _ _)

-- Places

-- the first events of a legal history are legal
front-legal : (rules : Rules) (before events later : List Event) → AllAfter (IsRight rules) before (events ++ later)
    → AllAfter (IsRight rules) before events
front-legal rules before [] later right = tt
front-legal rules before (first ∷ events) later right = (right.0, front-legal rules (before ++ first ∷ []) events later right.1)

-- each event is right at its place
right-at : (rules : Rules) (before events later : List Event) (event : Event)
    → AllAfter (IsRight rules) before (events ++ event ∷ later)
    → IsRight rules (before ++ events) event
right-at rules before [] later event right = subst (λ b. IsRight rules b event) (sym (append-nil before)) right.0
right-at rules before (first ∷ events) later event right =
    subst (λ b. IsRight rules b event) (append_assoc before (first ∷ []) events) (right-at rules (before ++ first ∷ []) events later event right.1)

in_turn : (rules : Rules) (before : List Event) (event : Event) → IsRight rules before event
    → IsInTurn (next_of before) event
in_turn rules before (Submit caller change from verdict trail) right = tt
in_turn rules before (Look caller next) right = tt
in_turn rules before (Open cycle mask) right = right.0

near : (rules : Rules) (before : List Event) (event : Event) → IsRight rules before event → next_of before < 2 ^ 63
    → IsEventNear event
near rules before (Submit caller change from verdict trail) right few = let opened = right.opened in omega arith
near rules before (Look caller next) right few = tt
near rules before (Open cycle mask) right few = tt

formed-by : (rules : Rules) (placed : List Placed) (pending from next : ℕ) (change : Change) (verdict : Verdict)
    → IsRules rules
    → IsVerdict rules placed pending from next change verdict → is_accepted verdict ≡ true → IsFormed placed change
formed-by rules placed pending from next change (Malformed op why) ranges answer accepted = absurd (let none : ⊥ = cc in none)
formed-by rules placed pending from next change (Passed start opened) ranges answer accepted = absurd (let none : ⊥ = cc in none)
formed-by rules placed pending from next change (Miss slot release cycle) ranges answer accepted = absurd (let none : ⊥ = cc in none)
formed-by rules placed pending from next change (Horizon first walked) ranges answer accepted = absurd (let none : ⊥ = cc in none)
formed-by rules placed pending from next change (Accepted first length) ranges answer accepted =
    record { bounds = bounds_by rules; few = ranges.few_nodes; room = ranges.few_slots; well_formed = answer.0.well_formed }

formed : (rules : Rules) (before : List Event) (event : Event) → IsRules rules → IsRight rules before event
    → IsFormedIn (placed_of before) event
formed rules before (Submit caller change from verdict trail) ranges right =
    formed-by rules (placed_of before) _ from (next_of before) change verdict ranges right.answer
formed rules before (Look caller next) ranges right = tt
formed rules before (Open cycle mask) ranges right = tt

-- where a change is well formed for the placed entries, it is for those that are kept
formed-kept : (list kept : List Placed) (next : ℕ) (event : Event) → IsWellPlaced list → HasEntries list next kept → IsFormedIn list event
    → IsFormedIn kept event
formed-kept list kept next (Submit caller change from verdict trail) well entries by = λ accepted.
    let given : IsFormed list change = by accepted in
    record {
      bounds = given.bounds;
      few = given.few;
      room = given.room;
      well_formed = ap (λ l. faults l given.bounds change) entries.held.is ∙ faults-pruned entries.held.by list well given.bounds change ∙ given.well_formed;
    }
formed-kept list kept next (Look caller looked) well entries by = tt
formed-kept list kept next (Open cycle mask) well entries by = tt

placed_of-push : (before : List Event) (event : Event)
    → placed_of (before ++ event ∷ []) ≡ placed_after (placed_of before) event
placed_of-push before event = fold-append placed_after [] before (event ∷ [])

pub one_or_none : (b : Bool) → cond b 1 0 ≤ 1
one_or_none true = omega arith
one_or_none false = omega arith

-- as the next cycle goes on, the entries stay
entries-later : (list : List Placed) (next later : ℕ) (kept : List Placed) → next ≤ later
    → HasEntries list next kept → HasEntries list later kept
entries-later list next later kept on entries =
    let early = entries.held.early in
    record {
      held = record { by = entries.held.by; early = omega (arith, early, on); is = entries.held.is };
      well_placed = entries.well_placed;
    }

-- after a change they are pruned anew
pub entries-changed : (list : List Placed) (next : ℕ) (kept : List Placed) (change : Change) (after : List Placed) → HasEntries list next kept
    → after ≡ pruned next (applied kept change) → IsWellPlaced after → HasEntries (applied list change) next after
entries-changed list next kept change after entries is well = record {
  held = record {
    by = next;
    early = omega arith;
    is = is ∙ ap (λ l. pruned next (applied l change)) entries.held.is ∙ pruned-again entries.held.by next list change entries.held.early;
  };
  well_placed = well;
}

-- before any change there is none
pub entries-none : HasEntries [] 0 []
entries-none = record {
  held = record { by = 0; early = omega arith; is = refl };
  well_placed = record { in_range = λ i d within. absurd (omega arith); in_order = λ i j d order within. absurd (omega arith) };
}

-- What is written

-- the rows of the events before are written, and the entries, the next cycle and the frames left are those after them
pub record IsWritten (trace : List TimedFrame) (before : List Event) (text : List ℕ) (kept : List Placed) (next : ℕ) (frames : List TimedFrame) : Type 0 where
  pub text_is : text ≡ events_rows trace [] before
  pub in_range : All IsLogRow (events_told trace [] before)
  pub entries : HasEntries (placed_of before) next kept
  pub next_is : next ≡ next_of before
  pub left_is : IsLeft trace next frames

-- the next event is in turn, and the change that it accepts can be applied
pub record IsReady (kept : List Placed) (next : ℕ) (event : Event) : Type 0 where
  pub in_turn : IsInTurn next event
  pub near : IsEventNear event
  pub formed : IsFormedIn kept event

-- as each event of a legal history is
module _ (trace : List TimedFrame) (history : List Event) (i : ℕ) (event : Event) (text : List ℕ) (kept : List Placed) (next : ℕ) (frames : List TimedFrame)
    (within : i < length history) (here : event ≡ get_or history i event) (is : IsWritten trace (take i history) text kept next frames) where
  abbrev before : List Event
  before = take i history

  pub ready-at : (rules : Rules) → IsRules rules → IsLegal rules history → next < 2 ^ 63 → IsReady kept next event
  ready-at rules ranges legal few =
      let later = drop (suc i) history in
      let rest : drop i history ≡ event ∷ later = drop-cons history i event within ∙ ap (λ e. e ∷ later) (sym here) in
      let whole : history ≡ before ++ event ∷ later = sym (take-append-drop i history) ∙ ap (λ l. before ++ l) rest in
      let here-legal : AllAfter (IsRight rules) [] (before ++ event ∷ later) = subst (AllAfter (IsRight rules) []) whole legal in
      let right : IsRight rules before event = right-at rules [] before later event here-legal in
      record {
        in_turn = subst (λ n. IsInTurn n event) (sym is.next_is) (in_turn rules before event right);
        near = near rules before event right (subst (λ n. n < 2 ^ 63) is.next_is few);
        formed = formed-kept (placed_of before) kept next event (sound-of_legal rules before (front-legal rules [] before (event ∷ later) here-legal)).well_placed
            is.entries (formed rules before event ranges right);
      }

  -- after the event
  pub written-more : (more : List ℕ) (started later : List TimedFrame) (made : List Placed) (step : ℕ)
      → IsInTurn next event
      → more ≡ text ++ rows_with kept started event → All IsLogRow (told_with kept started event) → started ≡ frames_of_event trace event
      → HasEntries (placed_after (placed_of before) event) next made
      → step ≡ cond (is_open event) 1 0 → IsLeft trace (next + cond (is_open event) 1 0) later
      → IsWritten trace (take (i + 1) history) more made (next + step) later
  written-more more started later made step turn rows told all_frames table count after =
      let events : take (i + 1) history ≡ before ++ event ∷ [] = take_more history i event within ∙ ap (λ e. before ++ e ∷ []) (sym here) in
      subst (λ l. IsWritten trace l more made (next + step) later) (sym events) (record {
        text_is = rows ∙ ap (λ l. l ++ rows_with kept started event) is.text_is
            ∙ ap (λ l. events_rows trace [] before ++ rows_with kept l event) all_frames
            ∙ ap (λ l. events_rows trace [] before ++ l) (rows_with-event trace before event next kept is.entries turn)
            ∙ sym (events_rows-push trace [] before event);
        in_range = subst (All IsLogRow) (sym (events_told-push trace [] before event))
            (All-append IsLogRow (events_told trace [] before) (event_told trace before event) is.in_range
            (subst (All IsLogRow) (ap (λ l. told_with kept l event) all_frames ∙ told_with-event trace before event next kept is.entries turn) told));
        entries = subst (λ l. HasEntries l (next + step) made) (sym (placed_of-push before event))
            (entries-later (placed_after (placed_of before) event) next (next + step) made (omega arith) table);
        next_is = ap (λ n. next + n) count ∙ ap (λ n. n + cond (is_open event) 1 0) is.next_is ∙ sym (sum_by_push (λ e. cond (is_open e) 1 0) before event);
        left_is = subst (λ n. IsLeft trace (next + n) later) (sym count) after;
      })
