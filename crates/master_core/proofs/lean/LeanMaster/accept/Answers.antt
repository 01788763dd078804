use Rattle.std.proofs.Common.{◌≡◌, ◌∙◌, ℕ, true, [], ◌∷◌, ◌++◌, List, ap, subst, sym}
use Rattle.change_protocol.specs.declared.operations.Change.{Change}
use Rattle.planner_policies.specs.Plan.{pending_at}
use Rattle.admission.specs.Verdict.{IsVerdict}
use Rattle.master_core.specs.declared.event.Event.{Event}
use Rattle.master_core.specs.declared.event.Event.TheVariants.{Submit}
use Rattle.master_core.specs.Cores.{IsPrunedBefore, IsStateAs}
use Rattle.master_core.specs.History.{IsPlainlyLegal, next_of, placed_of, plan_of}
use Rattle.master_core.specs.Journals.{LeanView}
use Rattle.master_core.specs.Kept.{kept_behind}
use Rattle.master_core.proofs.Growing.{lean-verdict, trail-accepted}
use Rattle.master_core.proofs.Whole.{plain-more}
use Rattle.master_core.proofs.lean.LeanMaster.accept.Goals as goal

pub put_answer-requires : goal.put_answer-requires
put_answer-requires c = record {
  caller = c.requires.caller;
  state = c.self.invariant.0;
  forgets = c.self.invariant.1;
  all = c.self.invariant.2;
  held =
      subst (λ (n : ℕ). IsPrunedBefore n (placed_of c.self.inside.journal.history) c.self.inside.core.placed) (sym c.in_ok-answer.ensures.answered.from)
      c.self.invariant.0.held;
  answer = c.in_ok-answer.ensures.answer;
  right = c.in_ok-answer.ensures.right true _ c.self.invariant.0;
}

pub returns-then-not-is_accepted-clause-verdict : goal.returns-then-not-is_accepted-clause-verdict
returns-then-not-is_accepted-clause-verdict c =
    subst (λ (v : LeanView). IsVerdict v.rules (placed_of v.history) (pending_at (plan_of v.rules (placed_of v.history)) (next_of v.history)) (next_of v.history)
    (next_of v.history) c.args.change.now c.in_ok-answer.answer.verdict) c.self.view_is
    (lean-verdict c.self.inside.core.rules c.self.inside.journal.history c.in_ok-answer.answer.change c.args.change.now c.in_ok-answer.answer.from
    c.in_ok-answer.answer.verdict c.in_ok-answer.answer.trail (c.in_ok-answer.ensures.answered.from ∙ c.self.invariant.0.next) c.in_ok-answer.ensures.change
    (c.in_ok-answer.ensures.right true _ c.self.invariant.0))

pub returns-clause-verdict : goal.returns-clause-verdict
returns-clause-verdict c =
    subst (λ (v : LeanView). IsVerdict v.rules (placed_of v.history) (pending_at (plan_of v.rules (placed_of v.history)) (next_of v.history)) (next_of v.history)
    (next_of v.history) c.args.change.now c.in_ok-answer.answer.verdict) c.self.view_is
    (lean-verdict c.self.inside.core.rules c.self.inside.journal.history c.in_ok-answer.answer.change c.args.change.now c.in_ok-answer.answer.from
    c.in_ok-answer.answer.verdict c.in_ok-answer.answer.trail (c.in_ok-answer.ensures.answered.from ∙ c.self.invariant.0.next) c.in_ok-answer.ensures.change
    (c.in_ok-answer.ensures.right true _ c.self.invariant.0))

pub returns-clause-event : goal.returns-clause-event
returns-clause-event c accepted =
    let here : c.in_ok-answer.answer.from ≡ next_of c.self.inside.journal.history = c.in_ok-answer.ensures.answered.from ∙ c.self.invariant.0.next in
    let right = c.in_ok-answer.ensures.right true _ c.self.invariant.0 in
    subst (λ (v : LeanView). c.put_answer.new.journal.history
    ≡ v.history ++ Submit c.args.caller c.args.change.now (next_of v.history) c.in_ok-answer.answer.verdict [] ∷ []) c.self.view_is
    (c.in_ok-put_answer.ensures.event
    ∙ ap (λ (ch : Change). c.self.inside.journal.history
    ++ Submit c.args.caller ch c.in_ok-answer.answer.from c.in_ok-answer.answer.verdict c.in_ok-answer.answer.trail ∷ []) c.in_ok-answer.ensures.change
    ∙ ap (λ (n : ℕ). c.self.inside.journal.history
    ++ Submit c.args.caller c.args.change.now n c.in_ok-answer.answer.verdict c.in_ok-answer.answer.trail ∷ []) here
    ∙ ap (λ (t : List ℕ). c.self.inside.journal.history
    ++ Submit c.args.caller c.args.change.now (next_of c.self.inside.journal.history) c.in_ok-answer.answer.verdict t ∷ [])
    (right.plan ∙ trail-accepted _ c.in_ok-answer.answer.verdict accepted))

pub returns-clause-plain : goal.returns-clause-plain
returns-clause-plain c plain =
    let was = subst (λ (v : LeanView). IsPlainlyLegal v.rules v.history) (sym c.self.view_is) plain in
    let state = subst (λ (h : List Event). IsStateAs true h c.put_answer.new.core) c.in_ok-put_answer.ensures.event c.put_answer.ensures.state in
    rw c.in_ok-put_answer.ensures.event
    (plain-more _ _ _ c.self.inside.core _ c.put_answer.ensures.rules (c.in_ok-answer.ensures.answered.from ∙ c.self.invariant.0.next) state was)

pub returns-clause-placed : goal.returns-clause-placed
returns-clause-placed c =
    let here : c.in_ok-answer.answer.from ≡ next_of c.self.inside.journal.history = c.in_ok-answer.ensures.answered.from ∙ c.self.invariant.0.next in
    subst (λ (v : LeanView). c.put_answer.new.core.placed ≡ kept_behind v.placed (next_of v.history) c.args.change.now c.in_ok-answer.answer.verdict) c.self.view_is
    (c.in_ok-put_answer.ensures.placed
    ∙ ap (λ (ch : Change). kept_behind c.self.inside.core.placed c.in_ok-answer.answer.from ch c.in_ok-answer.answer.verdict) c.in_ok-answer.ensures.change
    ∙ ap (λ (n : ℕ). kept_behind c.self.inside.core.placed n c.args.change.now c.in_ok-answer.answer.verdict) here)
