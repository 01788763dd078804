-- Runs that are under way are runs of which the laws speak.
use Rattle.std.proofs.Common.{◌≤◌, List, [], ◌∷◌, ◌++◌, All, sym, subst, append_assoc}
use Rattle.std.proofs.lemmas.List.Elements.{All-append, All-cons, All-contains, All-nil}
use Rattle.can_frame.specs.declared.data_frame.TimedFrame.{TimedFrame}
use Rattle.requirement_table.specs.Opening.{Opening, width_of}
use Rattle.master_core.specs.declared.event.Event.{Event}
use Rattle.master_core.specs.declared.event.Event.TheVariants.{Submit, Look, Open}
use Rattle.master_core.specs.History.{IsLegal, next_of, placed_of}
use Rattle.master_core.specs.Openings.{opening_of, openings_after, openings_of}
use Rattle.kept_run.specs.Progress.{IsUnderWay}
use Rattle.kept_run.specs.Setting.{IsSetting, Setting}
use Rattle.kept_run.proofs.Shared.{legal-parts, opened-fits, opened-legal}
use Rattle.bounded_runs.specs.Runs.{IsBoundedRun}

module _ (setting : Setting) (known : IsSetting setting) where
  abbrev Narrow : Opening → Type 0
  Narrow opening = width_of opening ≤ setting.layout.window

  narrow-one : (before : List Event) (event : Event) → IsLegal setting.rules (before ++ event ∷ []) → All Narrow (opening_of before event)
  narrow-one before (Submit caller change from verdict trail) legal = All-nil Narrow
  narrow-one before (Look caller next) legal = All-nil Narrow
  narrow-one before (Open cycle mask) legal =
      All-cons Narrow (record { cycle = cycle; mask = mask; placed = placed_of before }) [] (opened-fits setting before cycle mask known legal).width (All-nil Narrow)

  narrow-after : (before events : List Event) → IsLegal setting.rules (before ++ events) → All Narrow (openings_after before events)
  narrow-after before [] legal = All-nil Narrow
  narrow-after before (event ∷ later) legal =
      let moved : IsLegal setting.rules ((before ++ event ∷ []) ++ later) = subst (IsLegal setting.rules) (sym (append_assoc before (event ∷ []) later)) legal in
      All-append Narrow (opening_of before event) (openings_after (before ++ event ∷ []) later)
      (narrow-one before event ((legal-parts setting.rules (before ++ event ∷ []) later moved).0)) (narrow-after (before ++ event ∷ []) later moved)

  pub run-of : (history : List Event) (trace : List TimedFrame) → IsUnderWay setting history trace
      → IsBoundedRun setting.sends setting.layout setting.requests (openings_of history) (next_of history) trace
  run-of history trace way = record {
    can_trace = way.can_trace;
    runs = way.cycles;
    opened = λ cycle below.
        let found = (opened-legal setting.rules history way.legal).opened cycle below in
        record {
          opening = found.0;
          among = found.1;
          number = found.2;
          narrow = All-contains Narrow (openings_of history) found.0 (narrow-after [] history way.legal) found.1;
        };
  }
