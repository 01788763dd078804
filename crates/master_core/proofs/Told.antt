-- What the answers of a history tell of the plan that goes on from the next cycle.
use Rattle.std.proofs.Common.{◌≡◌, ℕ, Bool, true, false, if◌then◌else◌, List, [], ◌∷◌, ◌++◌, Option, Some, None, sym, arith}
use Rattle.std.proofs.lemmas.Bool.{eqb-true}
use Rattle.std.proofs.lemmas.List.Sums.{fold-append}
use Rattle.requirement_table.specs.declared.entries.Placed.{Placed}
use Rattle.change_protocol.specs.declared.operations.Change.{Change}
use Rattle.change_protocol.specs.Applied.{applied}
use Rattle.planner_policies.specs.Plan.{Planning, pending_at}
use Rattle.admission_rules.specs.declared.Rules.{Rules}
use Rattle.admission.specs.declared.verdict.Verdict.{Verdict}
use Rattle.admission.specs.declared.verdict.Verdict.TheVariants.{Accepted}
use Rattle.admission.specs.Verdict.{IsVerdictOnPlan, plan_from}
use Rattle.master_core.specs.declared.event.Event.{Event}
use Rattle.master_core.specs.declared.event.Event.TheVariants.{Submit}
use Rattle.master_core.specs.Certificates.{IsRepeatTold, onward_of, told_after, told_by, told_of}
use Rattle.master_core.specs.History.{IsLegal, IsRight, IsRightAnswer, is_open, next_of, placed_after, placed_of, plan_of}
use Rattle.master_core.proofs.Earlier.{same-of_legal}
use Rattle.master_core.proofs.Histories.{kept-along, next_of-push, placed_of-push}

-- the planning of a list that goes on from a cycle, in the plan from cycle 0 on
abbrev onward_at : Rules → List Placed → ℕ → Planning
onward_at rules placed next = plan_from rules placed next (pending_at (plan_of rules placed) next)

-- what was told stays, where the event changes no entry and opens no cycle
stays-told : (rules : Rules) (before : List Event) (event : Event) (next : ℕ) (told : Option (ℕ × ℕ))
    → placed_after (placed_of before) event ≡ placed_of before → is_open event ≡ false → IsRepeatTold rules before next told
    → IsRepeatTold rules (before ++ event ∷ []) next told
stays-told rules before event next told h0 h1 h2 = grind (arith, next_of-push, placed_of-push)

-- what an accepted change tells that was planned from the next cycle
module _ (rules : Rules) (before : List Event) (caller : ℕ) (change : Change) (from first length : ℕ) (trail : List ℕ) (legal : IsLegal rules before)
    (right : IsRightAnswer rules before change from (Accepted first length) trail) where
  abbrev event : Event
  event = Submit caller change from (Accepted first length) trail

  abbrev after : List Event
  after = before ++ event ∷ []

  answered : next_of after ≡ from → IsVerdictOnPlan rules.horizon (onward_of rules after) (Accepted first length)
  answered at =
      let list : applied (placed_of before) change ≡ placed_of after = sym (placed_of-push before event) in
      let pending : pending_at (plan_of rules (placed_of before)) from ≡ pending_at (plan_of rules (placed_of after)) from =
      sym ((same-of_legal rules before event legal right).pending from right.opened) in
      grind arith

  told-if : (next : ℕ) (same : Bool) → (same ≡ true → from ≡ next)
      → IsRepeatTold rules after next (if same then Some (first, length) else None)
  told-if next same h0 = grind (arith, answered)

told-answer : (rules : Rules) (before : List Event) (caller : ℕ) (change : Change) (from : ℕ) (verdict : Verdict) (trail : List ℕ) (next : ℕ) (told : Option (ℕ × ℕ))
    → IsLegal rules before → IsRightAnswer rules before change from verdict trail → IsRepeatTold rules before next told
    → IsRepeatTold rules (before ++ Submit caller change from verdict trail ∷ []) next (told_by next told from verdict)
told-answer rules before caller change from verdict trail next told legal right was = grind (arith, stays-told, told-if, eqb-true)

told-event : (rules : Rules) (before : List Event) (event : Event) (next : ℕ) (told : Option (ℕ × ℕ))
    → IsLegal rules before → IsRight rules before event → IsRepeatTold rules before next told
    → IsRepeatTold rules (before ++ event ∷ []) next (told_after next told event)
told-event rules before event next told legal right was = grind (arith, told-answer, stays-told)

-- what is told of a legal history is so
pub told-of_legal : (rules : Rules) (history : List Event) (next : ℕ) → IsLegal rules history → IsRepeatTold rules history next (told_of next history)
told-of_legal rules history next legal =
    kept-along (IsRight rules) (λ (h : List Event). IsRepeatTold rules h next (told_of next h))
    (λ before event was kept right. grind (arith, fold-append, told-event))
    [] history tt (λ at. tt) legal
