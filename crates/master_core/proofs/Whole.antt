-- A core that forgets nothing keeps all placed entries of its history.
use Rattle.std.proofs.Common.{◌≡◌, ℕ, ◌+◌, ◌-◌, ◌≤◌, Bool, false, if◌then◌else◌, List, [], ◌∷◌, ◌++◌, Option, Some, None, Result, IfOk, refl, sym, subst, zero-add, arith}
use Rattle.std.proofs.lemmas.Grind.{common_steps}
use Rattle.requirement_table.specs.declared.entries.Order.{Order}
use Rattle.requirement_table.specs.declared.entries.Placed.{Placed}
use Rattle.requirement_table.specs.Table.{not_over}
use Rattle.change_protocol.specs.declared.operations.Change.{Change}
use Rattle.bit_sets.proofs.Shared.{has_bit-none}
use Rattle.planner_policies.specs.Plan.{IsValid, pending_at}
use Rattle.planner_policies.proofs.Shared.{valid-along}
use Rattle.admission.specs.declared.verdict.Verdict.{Verdict}
use Rattle.admission.specs.Verdict.{is_accepted, ranking_by}
use Rattle.master_core.specs.declared.answer.Answer.{Answer}
use Rattle.master_core.specs.declared.answer.Made.{Made}
use Rattle.master_core.specs.declared.event.Event.{Event}
use Rattle.master_core.specs.Apart.{snapshot_of}
use Rattle.master_core.specs.Answers.{AreMadeAs, IsAnswer, IsAnswerAs, IsMade}
use Rattle.master_core.specs.Cores.{CoreView, IsCore, IsCoreOrder, IsHeld, IsStateAs, IsStateOf, answered_as}
use Rattle.master_core.specs.History.{IsPlainlyLegal, IsPlannedNow, IsRightAnswer, placed_of, plan_of}
use Rattle.master_core.specs.Keeping.{IsMasterKept}
use Rattle.master_core.specs.Orders.{IsOrder}
use Rattle.master_core.proofs.Histories.{plain-push}
use Rattle.master_core.proofs.Legal.{sound-of_legal}
use Rattle.master_core.proofs.Onward.{later-pending}
use Rattle.master_core.proofs.States.{state-order}

module _ (history : List Event) (core : CoreView) (is : IsCore core) (of : IsStateOf history core) (all : core.forgets ≡ false) where
  pub placed-is : core.placed ≡ placed_of history
  placed-is = subst (λ (b : Bool). IsHeld b core.cycle (placed_of history) core.placed) all of.held

  pub whole-state : IsStateAs false history core
  whole-state = subst (λ (b : Bool). IsStateAs b history core) all of

  pub whole-kept : IsMasterKept core.rules history core.placed core.cycle (ranking_by core.rules (not_over core.cycle core.placed)) core.cycle core.pending core.learned
  whole-kept = grind (arith, placed-is)

  pub whole-order : (order : Order) → IsCoreOrder core order → IsOrder core.rules history order
  whole-order order by = grind (arith, state-order)

  -- the state of each cycle can be planned from
  valid-at : (n : ℕ) → IsValid (placed_of history) n (pending_at (plan_of core.rules (placed_of history)) n)
  valid-at n =
      let sound = sound-of_legal core.rules history of.legal in
      subst (λ (m : ℕ). IsValid (placed_of history) m (pending_at (plan_of core.rules (placed_of history)) n)) (zero-add n)
      (valid-along (plan_of core.rules (placed_of history)) n sound.well_placed (λ slot held. let none = has_bit-none slot in absurd (cc))
      (λ m slot below known. sound.in_time m slot known))

  pub whole-snapshot : record {
    rules = core.rules;
    placed = core.placed;
    state = record { cycle = core.cycle; pending = core.pending };
    accepted = core.accepted;
  } ≡ snapshot_of core.rules history
  whole-snapshot = rw (of.waiting, of.counted, placed-is, of.next) refl

  -- an answer to the core is one after the history, and the other way round
  module _ (answer : Answer) where
    whole-made : (made : Option Made) → AreMadeAs false core answer made → IsMade core.rules history answer made
    whole-made None refused = refused
    whole-made (Some made) by = grind (arith, placed-is)

    core-made : (made : Option Made) → IsMade core.rules history answer made → AreMadeAs false core answer made
    core-made None refused = refused
    core-made (Some made) by = grind (arith, placed-is)

    pub whole-answer : IsRightAnswer core.rules history answer.change answer.from answer.verdict answer.trail → IsAnswerAs false core answer
        → IsAnswer core.rules history answer
    whole-answer right to = record { right = right; made = whole-made answer.made to.made }

    pub core-answer : IsAnswer core.rules history answer → IsAnswerAs false core answer
    core-answer by =
        let right = by.right in
        let early : answer.from ≤ core.cycle = omega arith in
        let there : answer.from + (core.cycle - answer.from) ≡ core.cycle = omega arith in
        let set : ℕ = pending_at (plan_of core.rules (placed_of history)) answer.from in
        record {
          types = right.types;
          early = early;
          pending = set;
          held = subst (λ (l : List Placed). IsValid l answer.from set) (sym placed-is) (valid-at answer.from);
          leads = grind (arith, later-pending, zero-add, placed-is);
          verdict = grind (arith, common_steps, placed-is);
          made = core-made answer.made by.made;
        }

-- an answer changes neither the rules nor whether a core forgets
of-either : (b : Bool) (one other : CoreView) → one.rules ≡ other.rules → one.forgets ≡ other.forgets
    → ((if b then one else other).rules ≡ other.rules) × ((if b then one else other).forgets ≡ other.forgets)
of-either b one other rules forgets = grind arith

pub answered-same : (prunes : Bool) (core : CoreView) (from : ℕ) (change : Change) (verdict : Verdict)
    → ((answered_as prunes core from change verdict).rules ≡ core.rules) × ((answered_as prunes core from change verdict).forgets ≡ core.forgets)
answered-same prunes core from change verdict = of-either (is_accepted verdict) _ core refl refl

-- what is the state as the core keeps its list is the state of the core
pub state-by : (prunes : Bool) (history : List Event) (core : CoreView) → core.forgets ≡ prunes → IsStateAs prunes history core → IsStateOf history core
state-by prunes history core is of = subst (λ (b : Bool). IsStateAs b history core) (sym is) of

pub plain-more : (prunes : Bool) (history : List Event) (event : Event) (old new : CoreView) → new.rules ≡ old.rules → IsPlannedNow history event
    → IsStateAs prunes (history ++ event ∷ []) new → IsPlainlyLegal old.rules history → IsPlainlyLegal new.rules (history ++ event ∷ [])
plain-more prunes history event old new same now of was = grind (arith, plain-push)

-- where both hold of a result, what follows from both holds of it
pub both-ok : {X E : Type 0} (result : Result X E) (P Q R : X → Type 0) → ((x : X) → P x → Q x → R x) → IfOk result P → IfOk result Q → IfOk result R
both-ok result P Q R by p q = grind arith
