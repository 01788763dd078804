-- The history that the rows of a log say, against the steps of a file.
use Rattle.std.specs.Prelude.{◌≡◌, ℕ, Bool, true, false, List, [], ◌∷◌, ◌++◌, Some, count_by, filter, slice_get}
use Rattle.change_protocol.specs.declared.operations.Act.{Act}
use Rattle.change_protocol.specs.declared.operations.Act.TheVariants as act
use Rattle.change_protocol.specs.declared.operations.Change.{Change}
use Rattle.change_protocol.specs.Applied.{applied}
use Rattle.planner_policies.specs.Plan.{pending_at}
use Rattle.admission_rules.specs.declared.Rules.{Rules}
use Rattle.admission.specs.declared.verdict.Verdict.{Verdict}
use Rattle.admission.specs.Verdict.{plan_from, trail_of}
use Rattle.master_core.specs.declared.event.Event.{Event}
use Rattle.master_core.specs.declared.event.Event.TheVariants.{Submit, Look, Open}
use Rattle.master_core.specs.History.{placed_of, plan_of}
use Rattle.live_master.specs.Callers.{is_called_by}
use Rattle.steps_file.specs.declared.steps.Step.{Step}
use Rattle.live_steps.specs.Live.{acts_of}
use Rattle.bus_trace.specs.LogRows.{verdict_told}
use Rattle.log_reader.specs.Row.{opened_row}
use Rattle.log_reader.specs.declared.row.LogRow.{LogRow}
use Rattle.log_reader.specs.declared.row.LogRow.TheVariants as row
use Rattle.log_reader.specs.declared.row.OpenRow.{OpenRow}

-- whether a row is that of an event: a change, a look or the opening of a cycle
abbrev pub is_event_row : LogRow → Bool
is_event_row (row.Plan cycle mask) = false
is_event_row (row.Frame timed) = false
is_event_row (row.End next) = false
is_event_row _ = true

-- the act is the next one that the steps have of this operator, behind those that it took in a history
abbrev pub IsNextAct : List Step → List Event → ℕ → Act → Type 0
IsNextAct steps before operator asked =
    slice_get (acts_of operator steps) (count_by (is_called_by operator) before) ≡ Some asked

-- the trail that a legal history has with a verdict: the plan from `from` to the missed cycle
abbrev pub trail_with : Rules → List Event → Change → ℕ → Verdict → List ℕ
trail_with rules before change from verdict =
    trail_of (plan_from rules (applied (placed_of before) change)
    from (pending_at (plan_of rules (placed_of before)) from)) verdict

-- the event is read from a row, after the events before it. A change or a look has the caller of the row, and is the next
-- act of that operator. A change has the row's `from` and verdict, and the trail that a legal history has with them. A
-- look has the row's next cycle, and an opening the row's cycle and slots. No event is read from a verdict that no
-- verdict is told as: a rule's number of 0 or above 11, or a cycle behind another rule than 10
abbrev pub IsReadFrom : Rules → List Step → List Event → LogRow → Event → Type 0
IsReadFrom rules steps before line (Submit caller change from verdict trail) =
    (line ≡ row.Submit caller from (verdict_told verdict))
    × IsNextAct steps before caller (act.Ask change)
    × (trail ≡ trail_with rules before change from verdict)
IsReadFrom rules steps before line (Look caller next) =
    (line ≡ row.Look caller next) × IsNextAct steps before caller act.Look
IsReadFrom rules steps before line (Open cycle mask) =
    (opened : OpenRow) × (line ≡ opened_row opened) × (opened.cycle ≡ cycle) × (opened.mask ≡ mask)

-- events, after those before them, are read from rows of events: one from each row, in their order
abbrev pub AreReadFrom : Rules → List Step → List Event → List LogRow → List Event → Type 0
AreReadFrom rules steps before [] [] = Unit {0}
AreReadFrom rules steps before [] (event ∷ later) = ⊥
AreReadFrom rules steps before (line ∷ lines) [] = ⊥
AreReadFrom rules steps before (line ∷ lines) (event ∷ later) =
    IsReadFrom rules steps before line event × AreReadFrom rules steps (before ++ event ∷ []) lines later

-- *History of rows*: its events are read from the rows of changes, looks and openings, in their order
abbrev pub IsHistoryOf : Rules → List Step → List LogRow → List Event → Type 0
IsHistoryOf rules steps rows history = AreReadFrom rules steps [] (filter is_event_row rows) history
