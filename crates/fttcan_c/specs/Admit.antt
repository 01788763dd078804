-- What is decided of a change, and what is planned of a cycle, where C keeps the table and the state of its plan.
use Rattle.std.specs.Prelude.{◌≡◌, ℕ, ◌+◌, ◌<◌, ◌≤◌, List, All, IfSome}
use Rattle.profile.specs.Limits.{openings_end}
use Rattle.requirement_table.specs.declared.entries.Placed.{Placed}
use Rattle.bit_sets.specs.Sets.{has_bit, most_slots, set_of}
use Rattle.requirement_table.specs.Table.{IsWellPlaced, width_in}
use Rattle.change_protocol.specs.Applied.{applied}
use Rattle.change_protocol.specs.declared.operations.Change.{Change}
use Rattle.planner_policies.specs.Plan.{HasNoMissIn, IsMissIn, IsValid, Planning, left_after, planned_in}
use Rattle.planner_policies.specs.declared.state.PlanState.{PlanState}
use Rattle.admission_rules.specs.declared.Rules.{Rules}
use Rattle.admission.specs.declared.decision.Decision.{Decision}
use Rattle.admission.specs.Verdict.{IsDecision, IsInTime, IsSafe, IsTakenWhereDue, plan_from}
use Rattle.c_values.specs.declared.plain.FttOp.{FttOp}
use Rattle.c_values.specs.declared.plain.FttPlaced.{FttPlaced}
use Rattle.c_values.specs.declared.plain.FttPlan.{FttPlan}
use Rattle.c_values.specs.declared.plain.FttRules.{FttRules}
use Rattle.c_values.specs.declared.plain.FttState.{FttState}
use Rattle.c_values.specs.declared.plain.FttVerdict.{FttVerdict}
use Rattle.c_values.specs.declared.refusal.ExportRefusal.{ExportRefusal}
use Rattle.c_values.specs.declared.refusal.ExportRefusal.TheVariants.{Memory, Argument, Table, State, Room, Miss, Closed, Open, Text, No}
use Rattle.c_values.specs.Plain.{AreRules, IsMask, IsOp, change_of, mask_of, rules_of, state_of, table_of}
use Rattle.c_values.specs.Told.{table_told, told}

-- the plan of a list of placed entries goes on from the state
pub record IsPlanState (placed : List Placed) (state : FttState) : Type 0 where
  pub mask : IsMask state.pending
  pub near : state.cycle ≤ openings_end
  pub held : IsValid placed state.cycle (mask_of state.pending)

abbrev pub IsFttState : List FttPlaced → FttState → Type 0
IsFttState placed state = IsPlanState (table_of placed) state

-- why a table and a state are refused; want of memory says nothing of them
abbrev pub RefusesStanding : List FttPlaced → FttState → ExportRefusal → Type 0
RefusesStanding placed state Memory = Unit {0}
RefusesStanding placed state Argument = ⊥
RefusesStanding placed state Table = IsWellPlaced (table_of placed) → ⊥
RefusesStanding placed state State = IsWellPlaced (table_of placed) × (IsFttState placed state → ⊥)
RefusesStanding placed state Room = ⊥
RefusesStanding placed state Miss = ⊥
RefusesStanding placed state Closed = ⊥
RefusesStanding placed state Open = ⊥
RefusesStanding placed state Text = ⊥
RefusesStanding placed state No = ⊥

-- what may be asked about a table and a state: rules and operations are in range
pub record AreAsked (rules : FttRules) (ops : List FttOp) : Type 0 where
  pub rules_are : AreRules rules
  pub kinds : All IsOp ops

-- the planning of the table that goes on from the state
abbrev pub plan_at : FttRules → List FttPlaced → FttState → Planning
plan_at rules placed state = plan_from (rules_of rules) (table_of placed) state.cycle (mask_of state.pending)

-- a change of a list was decided, whose plan goes on from the state: what C is told of the verdict, and the changed
-- list, which there is where the change is accepted. From it no deadline is missed at any later cycle
pub record IsDecidedOn (rules : Rules) (list : List Placed) (state : PlanState) (change : Change) (verdict : FttVerdict)
    (made : List FttPlaced) : Type 0 where
  pub decision : Decision
  pub decided : IsDecision rules list state.pending state.cycle change decision
  pub verdict_is : verdict ≡ told decision.verdict
  pub made_is : made ≡ table_told decision.placed
  pub safe : IfSome decision.placed (λ list. IsSafe rules list state.cycle state.pending)
  pub due : IsInTime rules list state.cycle change
      → IsTakenWhereDue rules (plan_from rules (applied list change) state.cycle state.pending) decision.verdict

-- so it was where C hands in a well placed table and a state from which its plan goes on
pub record IsDecided (rules : FttRules) (placed : List FttPlaced) (state : FttState) (start : ℕ) (ops : List FttOp)
    (verdict : FttVerdict) (made : List FttPlaced) : Type 0 where
  pub well_placed : IsWellPlaced (table_of placed)
  pub state_is : IsFttState placed state
  pub answer : IsDecidedOn (rules_of rules) (table_of placed) (state_of state) (change_of start ops) verdict made

-- why a change is not decided: a rule or an operation is out of range; or none is, and the table or the state is refused,
-- or there is no memory
abbrev pub RefusesChange : FttRules → List FttPlaced → FttState → List FttOp → ExportRefusal → Type 0
RefusesChange rules placed state ops Memory = AreAsked rules ops
RefusesChange rules placed state ops Argument = AreAsked rules ops → ⊥
RefusesChange rules placed state ops Table = AreAsked rules ops × (IsWellPlaced (table_of placed) → ⊥)
RefusesChange rules placed state ops State =
    AreAsked rules ops × IsWellPlaced (table_of placed) × (IsFttState placed state → ⊥)
RefusesChange rules placed state ops Room = ⊥
RefusesChange rules placed state ops Miss = ⊥
RefusesChange rules placed state ops Closed = ⊥
RefusesChange rules placed state ops Open = ⊥
RefusesChange rules placed state ops Text = ⊥
RefusesChange rules placed state ops No = ⊥

-- the state can be planned from, and its cycle may be opened
pub record CanOpen (placed : List FttPlaced) (state : FttState) : Type 0 where
  pub state_is : IsFttState placed state
  pub next : state.cycle < openings_end

-- the cycle of a state was planned, which may be opened: the flagged slots and the length of their window, and the state
-- behind it. No deadline is missed in it
pub record IsStateOpened (rules : FttRules) (placed : List FttPlaced) (old new : FttState)
    (plan : FttPlan) : Type 0 where
  pub well_placed : IsWellPlaced (table_of placed)
  pub from : CanOpen placed old
  pub cycle : new.cycle ≡ old.cycle + 1
  pub pending : mask_of new.pending
      ≡ set_of most_slots (left_after (plan_at rules placed old) old.cycle (has_bit (mask_of old.pending)))
  pub flags : mask_of plan.flags
      ≡ set_of most_slots (planned_in (plan_at rules placed old) old.cycle (has_bit (mask_of old.pending)))
  pub window : plan.window ≡ width_in (table_of placed) old.cycle
      (planned_in (plan_at rules placed old) old.cycle (has_bit (mask_of old.pending)))
  pub fits : plan.window ≤ rules.window
  pub held : IsValid (table_of placed) new.cycle (mask_of new.pending)
  pub in_time : HasNoMissIn (plan_at rules placed old) old.cycle (has_bit (mask_of old.pending))

-- why a cycle is not planned: a rule is out of range; or none is, and the table or the state is refused, there is no
-- memory, or at a miss an instance would miss its deadline in it
abbrev pub RefusesOpening : FttRules → List FttPlaced → FttState → ExportRefusal → Type 0
RefusesOpening rules placed state Memory = AreRules rules
RefusesOpening rules placed state Argument = AreRules rules → ⊥
RefusesOpening rules placed state Table = AreRules rules × (IsWellPlaced (table_of placed) → ⊥)
RefusesOpening rules placed state State = AreRules rules × IsWellPlaced (table_of placed) × (CanOpen placed state → ⊥)
RefusesOpening rules placed state Room = ⊥
RefusesOpening rules placed state Miss = AreRules rules × IsWellPlaced (table_of placed) × CanOpen placed state
    × ((slot release : ℕ)
    × IsMissIn (plan_at rules placed state) state.cycle (has_bit (mask_of state.pending)) slot release)
RefusesOpening rules placed state Closed = ⊥
RefusesOpening rules placed state Open = ⊥
RefusesOpening rules placed state Text = ⊥
RefusesOpening rules placed state No = ⊥
