-- *Histories* of a master: the calls in their order, each with its answer; what follows from them, and which of them
-- are legal.
use Rattle.std.specs.Prelude.{◌≡◌, ℕ, ◌≤◌, Bool, true, false, List, [], ◌∷◌, ◌++◌}
use Rattle.std.specs.Prelude.{Option, Some, None, All, count_by, fold, if◌then◌else◌}
use Rattle.requirement_table.specs.declared.entries.Placed.{Placed}
use Rattle.bit_sets.specs.Sets.{most_slots}
use Rattle.change_protocol.specs.declared.operations.Change.{Change}
use Rattle.change_protocol.specs.Applied.{applied}
use Rattle.change_protocol.specs.Operations.{HasTypes}
use Rattle.planner_policies.specs.Plan.{Planning, mask_at, pending_at}
use Rattle.admission_rules.specs.declared.Rules.{Rules}
use Rattle.admission.specs.declared.verdict.Verdict.{Verdict}
use Rattle.admission.specs.Verdict.{IsVerdict, is_accepted, plan_from, trail_of}
use Rattle.master_core.specs.declared.event.Event.{Event}
use Rattle.master_core.specs.declared.event.Event.TheVariants.{Submit, Look, Open}

-- whether the event opens a cycle
abbrev pub is_open : Event → Bool
is_open (Submit caller change from verdict trail) = false
is_open (Look caller next) = false
is_open (Open cycle mask) = true

-- the next cycle to be opened after a history: the number of cycles that it opened
abbrev pub next_of : List Event → ℕ
next_of history = count_by is_open history

-- whether the event accepts a change
abbrev pub accepts : Event → Bool
accepts (Submit caller change from verdict trail) = is_accepted verdict
accepts (Look caller next) = false
accepts (Open cycle mask) = false

-- the number of changes that a history accepted
abbrev pub accepted_of : List Event → ℕ
accepted_of history = count_by accepts history

-- the placed entries after an event: an accepted change is applied to those before it
abbrev pub placed_after : List Placed → Event → List Placed
placed_after placed (Submit caller change from verdict trail) =
    if is_accepted verdict then applied placed change else placed
placed_after placed (Look caller next) = placed
placed_after placed (Open cycle mask) = placed

-- *Placed entries*: the accepted changes of a history applied one after the other, to no entries at first
abbrev pub placed_of : List Event → List Placed
placed_of history = fold placed_after [] history

-- the planning of a list by these rules, from cycle 0 on, with nothing pending
abbrev pub plan_of : Rules → List Placed → Planning
plan_of rules placed = plan_from rules placed 0 0

-- no change was accepted in this history after the cycle `from` was opened: at each accepted one the next cycle was
-- `from` or a lower one
abbrev pub IsSince : List Event → ℕ → Type 0
IsSince history from = (front back : List Event) (event : Event)
    → history ≡ front ++ event ∷ back → accepts event ≡ true → next_of front ≤ from

-- a change is answered right after this history: it was planned from a cycle that is not above the next one, and behind
-- which no change was accepted; from what is pending before that cycle in the plan of the placed entries. A set of slots
-- has room for those of the rules, and the numbers of a change are in the ranges of their types: so it is with all rules
-- and changes that are handed in
pub record IsRightAnswer (rules : Rules) (history : List Event) (change : Change) (from : ℕ)
    (verdict : Verdict) (trail : List ℕ) : Type 0 where
  pub room : rules.slots ≤ most_slots
  pub types : All HasTypes change.ops
  pub since : IsSince history from
  pub opened : from ≤ next_of history
  pub answer : IsVerdict rules (placed_of history)
      (pending_at (plan_of rules (placed_of history)) from) from (next_of history) change verdict
  pub plan : trail
      ≡ trail_of (plan_from rules (applied (placed_of history) change)
      from (pending_at (plan_of rules (placed_of history)) from)) verdict

-- the event is right after this history
abbrev pub IsRight : Rules → List Event → Event → Type 0
IsRight rules history (Submit caller change from verdict trail) = IsRightAnswer rules history change from verdict trail
IsRight rules history (Look caller next) = next ≡ next_of history
IsRight rules history (Open cycle mask) =
    (cycle ≡ next_of history) × (mask ≡ mask_at (plan_of rules (placed_of history)) cycle)

-- each of the events has the property after the events before it
abbrev pub AllAfter : (List Event → Event → Type 0) → List Event → List Event → Type 0
AllAfter holds before [] = Unit {0}
AllAfter holds before (event ∷ later) = holds before event × AllAfter holds (before ++ event ∷ []) later

-- *Legal history*: each event is right at its place
abbrev pub IsLegal : Rules → List Event → Type 0
IsLegal rules history = AllAfter (IsRight rules) [] history

-- a change was planned from the cycle that was the next one when it was answered
abbrev pub IsPlannedNow : List Event → Event → Type 0
IsPlannedNow history (Submit caller change from verdict trail) = from ≡ next_of history
IsPlannedNow history (Look caller next) = Unit {0}
IsPlannedNow history (Open cycle mask) = Unit {0}

-- *Plainly legal*: legal, and each change was planned when it was answered
pub record IsPlainlyLegal (rules : Rules) (history : List Event) : Type 0 where
  pub legal : IsLegal rules history
  pub now : AllAfter IsPlannedNow [] history

-- the list that the nodes are to learn after a history, which they do not know: all placed entries, where a change was
-- accepted since the last opening
abbrev pub is_changed_after : Bool → Event → Bool
is_changed_after changed (Submit caller change from verdict trail) = if is_accepted verdict then true else changed
is_changed_after changed (Look caller next) = changed
is_changed_after changed (Open cycle mask) = false

abbrev pub is_changed : List Event → Bool
is_changed history = fold is_changed_after false history

abbrev pub learned_of : List Event → Option (List Placed)
learned_of history = if is_changed history then Some (placed_of history) else None
