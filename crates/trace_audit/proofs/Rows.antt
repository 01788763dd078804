-- The rows of histories that go on, and of frames that do.
use Rattle.std.proofs.Common.{◌≡◌, ◌+◌, ◌*◌, ◌/◌, ◌<◌, ◌≤◌, ◌++◌, ◌==◌, ℕ, false, Bool, List, [], ◌∷◌, All, cond, eqb, filter, get_or, map, refl, sym, ap, ◌∙◌, subst, arith, append_assoc, append-nil}
use Rattle.std.proofs.Math.Nat.{div-eq_of_lt-le, div-lt_iff_lt-mul, le-div_iff_mul-le}
use Rattle.std.proofs.lemmas.Bool.{cond-false, cond-true, eq-eqb, ne_eqb}
use Rattle.std.proofs.lemmas.List.{append_cancel_left}
use Rattle.std.proofs.lemmas.List.Elements.{All-head, All-tail, filter-append}
use Rattle.std.proofs.lemmas.List.Sums.{sum_by-append}
use Rattle.requirement_table.specs.Opening.{width_of}
use Rattle.can_frame.specs.declared.data_frame.TimedFrame.{TimedFrame}
use Rattle.master_core.specs.declared.event.Event.{Event}
use Rattle.master_core.specs.declared.event.Event.TheVariants.{Submit, Look, Open}
use Rattle.master_core.specs.History.{AllAfter, IsLegal, IsRight, is_open, next_of, placed_of}
use Rattle.master_core.specs.Openings.{openings_of}
use Rattle.cycle_engine.specs.Cycle.{cycle_of}
use Rattle.cycle_engine.specs.Offered.{IsCanTrace, SendsWhole}
use Rattle.kept_run.specs.Progress.{IsUnderWay}
use Rattle.kept_run.specs.Setting.{IsSetting, Setting}
use Rattle.kept_run.proofs.Shared.{next_of-push}
use Rattle.bus_trace.specs.EventRows.{told_at}
use Rattle.bus_trace.specs.Log.{started_in}
use Rattle.bus_trace.specs.LogRows.{event_told, events_told, log_rows, opened_told}
use Rattle.log_reader.specs.declared.row.LogRow.TheVariants as row

-- The rows of more events

pub events_told-append : (trace : List TimedFrame) (before events later : List Event)
    → events_told trace before (events ++ later) ≡ events_told trace before events ++ events_told trace (before ++ events) later
events_told-append trace before [] later = ap (λ h. events_told trace h later) (sym (append-nil before))
events_told-append trace before (event ∷ events) later =
    ap (λ l. event_told trace before event ++ l)
    (events_told-append trace (before ++ event ∷ []) events later
    ∙ ap (λ h. events_told trace (before ++ event ∷ []) events ++ events_told trace h later) (append_assoc before (event ∷ []) events))
    ∙ sym (append_assoc (event_told trace before event) (events_told trace (before ++ event ∷ []) events) (events_told trace (before ++ event ∷ events) later))

pub events_told-push : (trace : List TimedFrame) (history : List Event) (event : Event)
    → events_told trace [] (history ++ event ∷ []) ≡ events_told trace [] history ++ event_told trace history event
events_told-push trace history event = grind (arith, events_told-append, append-nil)

-- The frames of a cycle

-- what is known of the histories and frames of runs
pub record TraceLaws : Type 0 where
  pub under_way : (setting : Setting) (history : List Event) (trace : List TimedFrame) → IsSetting setting → SendsWhole setting.sends
      → IsLegal setting.rules history
      → IsCanTrace setting.sends setting.layout setting.requests (openings_of history) (next_of history) trace
      → IsUnderWay setting history trace
  pub front : (setting : Setting) (history later : List Event) (trace frames : List TimedFrame) → IsSetting setting
      → IsUnderWay setting history trace → IsLegal setting.rules (history ++ later)
      → IsCanTrace setting.sends setting.layout setting.requests (openings_of (history ++ later)) (next_of (history ++ later)) frames
      → (rest : List TimedFrame) × (frames ≡ trace ++ rest)
      × All (λ sent. next_of history * setting.layout.cycle ≤ sent.start) rest
  pub started : (setting : Setting) (history : List Event) (trace : List TimedFrame) → IsSetting setting → IsUnderWay setting history trace
      → (cycle : ℕ) → started_in cycle 0 trace ≡ filter (λ sent. cycle_of setting.layout sent == cycle) trace

not-before : (length start n cycle : ℕ) → 0 < length → n * length ≤ start → cycle < n → start / length ≡ cycle → ⊥
not-before length start n cycle some late early is = grind (arith, le-div_iff_mul-le)

in-cycle : (length start cycle : ℕ) → cycle * length ≤ start → start < (cycle + 1) * length → start / length ≡ cycle
in-cycle length start cycle late early = div-eq_of_lt-le {k = cycle} length {m = start} late early

some-cycle : {setting : Setting} → IsSetting setting → 0 < setting.layout.cycle
some-cycle known = omega (arith, known.known.cycle_range.above)

all-right : {A : Type 0} (P : A → Type 0) (xs ys : List A) → All P (xs ++ ys) → All P ys
all-right P [] ys all = all
all-right P (x ∷ xs) ys all = all-right P xs ys (All-tail P x (xs ++ ys) all)

pub next_of-append : (events later : List Event) → next_of (events ++ later) ≡ next_of events + next_of later
next_of-append events later = sum_by-append (λ e. cond (is_open e) 1 0) events later

module _ (setting : Setting) where
  -- frames that start elsewhere
  pub none-started : (cycle : ℕ) (frames : List TimedFrame) → All (λ sent. cycle_of setting.layout sent ≡ cycle → ⊥) frames
      → filter (λ sent. cycle_of setting.layout sent == cycle) frames ≡ []
  none-started cycle [] none = refl
  none-started cycle (sent ∷ later) none =
      cond-false (eqb (cycle_of setting.layout sent) cycle) (sent ∷ filter (λ s. cycle_of setting.layout s == cycle) later)
      (filter (λ s. cycle_of setting.layout s == cycle) later)
      (ne_eqb _ _ (All-head (λ s. cycle_of setting.layout s ≡ cycle → ⊥) sent later none))
      ∙ none-started cycle later (All-tail (λ s. cycle_of setting.layout s ≡ cycle → ⊥) sent later none)

  pub all-started : (cycle : ℕ) (frames : List TimedFrame) → All (λ sent. cycle_of setting.layout sent ≡ cycle) frames
      → filter (λ sent. cycle_of setting.layout sent == cycle) frames ≡ frames
  all-started cycle [] all = refl
  all-started cycle (sent ∷ later) all =
      cond-true (eqb (cycle_of setting.layout sent) cycle) (sent ∷ filter (λ s. cycle_of setting.layout s == cycle) later)
      (filter (λ s. cycle_of setting.layout s == cycle) later)
      (eq-eqb _ _ (All-head (λ s. cycle_of setting.layout s ≡ cycle) sent later all))
      ∙ ap (λ l. sent ∷ l) (all-started cycle later (All-tail (λ s. cycle_of setting.layout s ≡ cycle) sent later all))

-- frames that start behind the cycles of a history change none of its rows
module _ (laws : TraceLaws) (setting : Setting) (known : IsSetting setting)
    (history whole : List Event) (trace later : List TimedFrame) (way : IsUnderWay setting history trace)
    (all_way : IsUnderWay setting whole (trace ++ later))
    (behind : All (λ sent. next_of history * setting.layout.cycle ≤ sent.start) later) where
  same-started : (cycle : ℕ) → cycle < next_of history → started_in cycle 0 (trace ++ later) ≡ started_in cycle 0 trace
  same-started cycle early =
      let is_in : TimedFrame → Bool = λ sent. cycle_of setting.layout sent == cycle in
      let elsewhere : All (λ sent. cycle_of setting.layout sent ≡ cycle → ⊥) later =
      λ k d within is. not-before setting.layout.cycle (get_or later k d).start (next_of history) cycle (some-cycle known) (behind k d within) early is in
      laws.started setting whole (trace ++ later) known all_way cycle
      ∙ filter-append is_in trace later
      ∙ ap (λ l. filter is_in trace ++ l) (none-started setting cycle later elsewhere)
      ∙ append-nil (filter is_in trace)
      ∙ sym (laws.started setting history trace known way cycle)

  event-same : (before : List Event) (event : Event) → IsRight setting.rules before event
      → next_of (before ++ event ∷ []) ≤ next_of history → event_told (trace ++ later) before event ≡ event_told trace before event
  event-same before event right few = grind (arith, next_of-push, same-started)

  events-same : (before events : List Event) → AllAfter (IsRight setting.rules) before events
      → next_of (before ++ events) ≤ next_of history
      → events_told (trace ++ later) before events ≡ events_told trace before events
  events-same before [] right few = refl
  events-same before (event ∷ events) right few =
      let row_is : (before ++ event ∷ []) ++ events ≡ before ++ event ∷ events = append_assoc before (event ∷ []) events in
      let count : next_of ((before ++ event ∷ []) ++ events) ≡ next_of (before ++ event ∷ []) + next_of events =
      next_of-append (before ++ event ∷ []) events in
      let same : next_of ((before ++ event ∷ []) ++ events) ≡ next_of (before ++ event ∷ events) = ap next_of row_is in
      ap (λ l. l ++ events_told (trace ++ later) (before ++ event ∷ []) events) (event-same before event right.0 (omega (arith, count, same, few)))
      ∙ ap (λ l. event_told trace before event ++ l) (events-same (before ++ event ∷ []) events right.1 (omega (arith, same, few)))

  pub rows-same : events_told (trace ++ later) [] history ≡ events_told trace [] history
  rows-same = events-same [] history way.legal (omega arith)

-- The rows of a run begin with those of what it begins with

module _ (laws : TraceLaws) (setting : Setting) (known : IsSetting setting) (history : List Event) (trace : List TimedFrame)
    (way : IsUnderWay setting history trace) where
  -- those of a run under way
  rows-under-way : (later : List Event) (frames : List TimedFrame) → IsUnderWay setting (history ++ later) frames
      → events_told frames [] history ≡ events_told trace [] history
  rows-under-way later frames whole =
      let (rest, all, behind) = laws.front setting history later trace frames known way whole.legal whole.can_trace in
      grind (arith, rows-same)

  pub rows-go-on : SendsWhole setting.sends → (later : List Event) (frames : List TimedFrame) → IsLegal setting.rules (history ++ later)
      → IsCanTrace setting.sends setting.layout setting.requests (openings_of (history ++ later)) (next_of (history ++ later)) frames
      → events_told frames [] history ≡ events_told trace [] history
  rows-go-on fully later frames legal is =
      rows-under-way later frames (laws.under_way setting (history ++ later) frames known fully legal is)

  pub log-goes-on : SendsWhole setting.sends → (later : List Event) (frames : List TimedFrame) → IsLegal setting.rules (history ++ later)
      → IsCanTrace setting.sends setting.layout setting.requests (openings_of (history ++ later)) (next_of (history ++ later)) frames
      → log_rows (history ++ later) frames
      ≡ events_told trace [] history ++ (events_told frames history later ++ row.End (next_of (history ++ later)) ∷ [])
  log-goes-on fully later frames legal is = grind (arith, events_told-append, append_assoc, rows-go-on)

  -- a cycle that is opened and run adds the rows of its event
  pub opened-told : (cycle mask : ℕ) (frames : List TimedFrame) → IsUnderWay setting (history ++ Open cycle mask ∷ []) (trace ++ frames)
      → cycle ≡ next_of history
      → events_told (trace ++ frames) [] (history ++ Open cycle mask ∷ [])
      ≡ events_told trace [] history
      ++ told_at (width_of (record { cycle = cycle; mask = mask; placed = placed_of history })) (Open cycle mask) frames
  opened-told cycle mask frames new now =
      let length : ℕ = setting.layout.cycle in
      let is_in : TimedFrame → Bool = λ sent. cycle_of setting.layout sent == cycle in
      let (rest, all, behind) = laws.front setting history (Open cycle mask ∷ []) trace (trace ++ frames) known way new.legal new.can_trace in
      let same : frames ≡ rest = append_cancel_left trace frames rest all in
      let late : All (λ sent. next_of history * length ≤ sent.start) frames = subst (All (λ sent. next_of history * length ≤ sent.start)) (sym same) behind in
      let more : next_of (history ++ Open cycle mask ∷ []) ≡ next_of history + 1 = next_of-push history (Open cycle mask) in
      let earlier : All (λ sent. cycle_of setting.layout sent ≡ cycle → ⊥) trace = grind (arith, some-cycle) in
      let within-new : All (λ sent. sent.start < next_of (history ++ Open cycle mask ∷ []) * length) frames =
      all-right (λ sent. sent.start < next_of (history ++ Open cycle mask ∷ []) * length) trace frames new.can_trace.within in
      let here : All (λ sent. cycle_of setting.layout sent ≡ cycle) frames =
      λ k d within. in-cycle length (get_or frames k d).start cycle
      (subst (λ n. n * length ≤ (get_or frames k d).start) (sym now) (late k d within))
      (subst (λ n. (get_or frames k d).start < n * length) (more ∙ ap (λ n. n + 1) (sym now)) (within-new k d within)) in
      let started : started_in cycle 0 (trace ++ frames) ≡ frames =
      laws.started setting (history ++ Open cycle mask ∷ []) (trace ++ frames) known new cycle
      ∙ filter-append is_in trace frames
      ∙ ap (λ l. l ++ filter is_in frames) (none-started setting cycle trace earlier)
      ∙ all-started setting cycle frames here in
      grind (arith, events_told-push, rows-under-way)

-- a change or a look adds its own
pub called-told : (trace : List TimedFrame) (history : List Event) (event : Event) (width : ℕ) (frames : List TimedFrame) → is_open event ≡ false
    → events_told trace [] (history ++ event ∷ []) ≡ events_told trace [] history ++ told_at width event frames
called-told trace history event width frames closed = grind (arith, events_told-push)
