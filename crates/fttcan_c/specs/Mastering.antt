-- What a master behind a handle is asked for, and what C is told.
use Rattle.std.specs.Prelude.{◌≡◌, ℕ, ◌+◌, ◌<◌, ◌≤◌, ◌++◌, ◌∷◌, [], List, All, Bool, true, Option, Some, None, is_some, map}
use Rattle.std.specs.Int.{from_bool}
use Rattle.profile.specs.Limits.{openings_end}
use Rattle.bit_sets.specs.Sets.{has_bit}
use Rattle.requirement_table.specs.Table.{width_in}
use Rattle.planner_policies.specs.Plan.{mask_at}
use Rattle.change_protocol.specs.Applied.{applied}
use Rattle.change_protocol.specs.declared.operations.Change.{Change}
use Rattle.admission.specs.Verdict.{IsInTime, IsSafe, IsTakenWhereDue, plan_from}
use Rattle.master_core.specs.declared.answered.Answered.{Answered}
use Rattle.master_core.specs.declared.event.Event.{Event}
use Rattle.master_core.specs.declared.event.Event.TheVariants.{Submit, Look, Open}
use Rattle.master_core.specs.Cores.{CoreView, IsAnswered, IsCore, IsStateOf, answered_by, new_core, onward, opened}
use Rattle.master_handle.specs.declared.held.HandleContent.{HandleContent}
use Rattle.master_handle.specs.declared.held.HandleContent.TheVariants.{Master}
use Rattle.c_values.specs.declared.plain.FttOp.{FttOp}
use Rattle.c_values.specs.declared.plain.FttOrder.{FttOrder}
use Rattle.c_values.specs.declared.plain.FttRules.{FttRules}
use Rattle.c_values.specs.declared.plain.FttVerdict.{FttVerdict}
use Rattle.c_values.specs.declared.refusal.ExportRefusal.{ExportRefusal}
use Rattle.c_values.specs.declared.refusal.ExportRefusal.TheVariants as refused
use Rattle.c_values.specs.Plain.{AreRules, IsOp, change_of, mask_of, rules_of}
use Rattle.c_values.specs.Told.{told}

-- a master is held
pub record HoldsMaster (held : HandleContent) : Type 0 where
  pub core : CoreView
  pub trail : List ℕ
  pub is : held ≡ Master core trail

-- something is held, and of it this holds
pub record Holds (value : Option HandleContent) (property : HandleContent → Type 0) : Type 0 where
  pub held : HandleContent
  pub is : value ≡ Some held
  pub known : property held

-- a core answered a change: the verdict is that of the definition, planned from the next cycle on. No deadline is missed
-- behind it at any later cycle. Whoever has the history of the core in mind has it with this answer behind it
pub record IsCoreSubmitted (caller : ℕ) (change : Change) (old new : CoreView) (answered : Answered) : Type 0 where
  pub after : new ≡ answered_by old answered.from change answered.verdict
  pub answer : IsAnswered old change answered
  pub due : IsInTime old.rules old.placed old.cycle change
      → IsTakenWhereDue old.rules (plan_from old.rules (applied old.placed change) old.cycle old.pending) answered.verdict
  pub safe : IsCore new
  pub history : (history : List Event) → IsStateOf history old
      → IsStateOf (history ++ Submit caller change answered.from answered.verdict answered.trail ∷ []) new

-- a master answered it, C is told the verdict, and the trail is kept
pub record IsSubmitted (caller start : ℕ) (ops : List FttOp) (verdict : FttVerdict)
    (old new : HandleContent) : Type 0 where
  pub core : CoreView
  pub trail : List ℕ
  pub next : CoreView
  pub answered : Answered
  pub before : old ≡ Master core trail
  pub after : new ≡ Master next answered.trail
  pub answer : IsCoreSubmitted caller (change_of start ops) core next answered
  pub verdict_is : verdict ≡ told answered.verdict

-- an operator is one of 1 to 8
abbrev pub IsCaller : ℕ → Type 0
IsCaller caller = (1 ≤ caller) × (caller ≤ 8)

-- what an operator may ask for
pub record MayAsk (caller : ℕ) (ops : List FttOp) : Type 0 where
  pub some_caller : 1 ≤ caller
  pub few_callers : caller ≤ 8
  pub kinds : All IsOp ops

-- why a core does not answer a change: what is asked for is out of range; or it is not, and there is no memory
abbrev pub RefusesAsked : ℕ → List FttOp → ExportRefusal → Type 0
RefusesAsked caller ops refused.Memory = MayAsk caller ops
RefusesAsked caller ops refused.Argument = MayAsk caller ops → ⊥
RefusesAsked caller ops refused.Table = ⊥
RefusesAsked caller ops refused.State = ⊥
RefusesAsked caller ops refused.Room = ⊥
RefusesAsked caller ops refused.Miss = ⊥
RefusesAsked caller ops refused.Closed = ⊥
RefusesAsked caller ops refused.Open = ⊥
RefusesAsked caller ops refused.Text = ⊥
RefusesAsked caller ops refused.No = ⊥

-- why a master does not answer it: none is held; one is, and what is asked for is out of range; or neither, and there is
-- no memory
abbrev pub RefusesSubmit : ℕ → List FttOp → HandleContent → ExportRefusal → Type 0
RefusesSubmit caller ops held refused.Memory = HoldsMaster held × MayAsk caller ops
RefusesSubmit caller ops held refused.Argument = HoldsMaster held × (MayAsk caller ops → ⊥)
RefusesSubmit caller ops held refused.Table = ⊥
RefusesSubmit caller ops held refused.State = ⊥
RefusesSubmit caller ops held refused.Room = ⊥
RefusesSubmit caller ops held refused.Miss = ⊥
RefusesSubmit caller ops held refused.Closed = HoldsMaster held → ⊥
RefusesSubmit caller ops held refused.Open = ⊥
RefusesSubmit caller ops held refused.Text = ⊥
RefusesSubmit caller ops held refused.No = ⊥

-- a core opened a cycle, which is one that may be opened: the order is that of the next cycle, and no deadline is missed
-- in it nor later. Whoever has the history of the core in mind has it with this opening behind it
pub record IsCoreOpened (order : FttOrder) (old new : CoreView) : Type 0 where
  pub near : old.cycle < openings_end
  pub after : new ≡ opened old
  pub cycle : order.cycle ≡ old.cycle
  pub flags : mask_of order.flags ≡ mask_at (onward old) 0
  pub window : order.window ≡ width_in old.placed old.cycle (has_bit (mask_of order.flags))
  pub fits : order.window ≤ old.rules.window
  pub learned : order.learned ≡ from_bool (is_some old.learned)
  pub safe : IsSafe old.rules old.placed old.cycle old.pending
  pub history : (history : List Event) → IsStateOf history old
      → IsStateOf (history ++ Open order.cycle (mask_of order.flags) ∷ []) new

pub record IsMasterOpened (order : FttOrder) (old new : HandleContent) : Type 0 where
  pub core : CoreView
  pub trail : List ℕ
  pub next : CoreView
  pub before : old ≡ Master core trail
  pub after : new ≡ Master next trail
  pub order_is : IsCoreOpened order core next

-- the next cycle of a master may be opened
pub record CanOpenMaster (held : HandleContent) : Type 0 where
  pub core : CoreView
  pub trail : List ℕ
  pub is : held ≡ Master core trail
  pub next : core.cycle < openings_end

-- why no cycle is opened: no master is held; or one is, and its next cycle may not be opened
abbrev pub RefusesOpen : HandleContent → ExportRefusal → Type 0
RefusesOpen held refused.Memory = ⊥
RefusesOpen held refused.Argument = ⊥
RefusesOpen held refused.Table = ⊥
RefusesOpen held refused.State = HoldsMaster held × (CanOpenMaster held → ⊥)
RefusesOpen held refused.Room = ⊥
RefusesOpen held refused.Miss = ⊥
RefusesOpen held refused.Closed = HoldsMaster held → ⊥
RefusesOpen held refused.Open = ⊥
RefusesOpen held refused.Text = ⊥
RefusesOpen held refused.No = ⊥

-- why no master is made where nothing is held: the rules are out of range; or they are not, and there is no memory
abbrev pub RefusesNew : FttRules → ExportRefusal → Type 0
RefusesNew rules refused.Memory = AreRules rules
RefusesNew rules refused.Argument = AreRules rules → ⊥
RefusesNew rules refused.Table = ⊥
RefusesNew rules refused.State = ⊥
RefusesNew rules refused.Room = ⊥
RefusesNew rules refused.Miss = ⊥
RefusesNew rules refused.Closed = ⊥
RefusesNew rules refused.Open = ⊥
RefusesNew rules refused.Text = ⊥
RefusesNew rules refused.No = ⊥
