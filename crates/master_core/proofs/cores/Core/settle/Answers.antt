use Rattle.std.proofs.Common.{◌≡◌, ◌∙◌, ℕ, List, [], ◌∷◌, ◌++◌, Result, Ok, Err, IfOk, ap, inl, inr, subst, sym}
use Rattle.std.proofs.lemmas.Result.{IfOk-weaker}
use Rattle.change_protocol.specs.declared.operations.Change.{Change}
use Rattle.admission.specs.declared.verdict.Verdict.{Verdict}
use Rattle.master_core.specs.declared.answer.Answer.{Answer}
use Rattle.master_core.specs.declared.answered.Answered.{Answered}
use Rattle.master_core.specs.declared.event.Event.{Event}
use Rattle.master_core.specs.declared.event.Event.TheVariants.{Submit}
use Rattle.master_core.specs.Answers.{IsAnswerTo, answer_at}
use Rattle.master_core.specs.CorePlans.{CanSettleFrom, CorePlannedView, IsAnsweredFrom, IsLedTo, IsSettled, IsSettledByPlan, IsTakenFrom}
use Rattle.master_core.specs.Cores.{CoreView, IsAnswered, IsCore, IsHeld, IsStateOf, answered_by, state_of}
use Rattle.master_core.specs.History.{IsRightAnswer, placed_of}
use Rattle.master_core.proofs.CorePlans.{answered-from, by-plan, right-then, settled, submit-same, told_of, view}
use Rattle.master_core.proofs.cores.Core.settle.Goals as goal

-- both hold where the result is Ok
pair-ok : {X E : Type 0} (r : Result X E) (P Q : X → Type 0) → IfOk r P → IfOk r Q → IfOk r (λ x. P x × Q x)
pair-ok (Ok x) P Q one other = (one, other)
pair-ok (Err e) P Q one other = tt

pub put_where_room-requires : goal.put_where_room-requires
put_where_room-requires c =
    let led = subst (λ (v : CoreView). IsLedTo v c.planned.inside.snapshot) (sym c.self.view_is) (c.in_ok-is_led_to.ensures.led c.if-not-branch.false) in
    let kept = rw c.at_next-answer.ensures.same at c.kept-answer.ensures.made in
    let by =
    settled _ c.self.invariant.0 c.planned.inside.snapshot c.planned.invariant.0 led c.planned.inside.answer c.planned.invariant.1 c.kept-answer.result.made kept in
    let kept_is : c.kept-answer.result ≡ record (answer_at c.self.inside.state.cycle c.planned.inside.answer) { made = c.kept-answer.result.made } =
    c.kept-answer.ensures.same ∙ ap (λ (a : Answer). record a { made = c.kept-answer.result.made }) c.at_next-answer.ensures.same in
    record { answer = subst (λ (v : CoreView). IsAnswerTo v c.kept-answer.result) c.self.view_is (subst (IsAnswerTo _) (sym kept_is) by.to) }

pub returns-then-not-branch-clause-answer : goal.returns-then-not-branch-clause-answer
returns-then-not-branch-clause-answer c =
    let is = subst IsCore c.self.view_is c.self.invariant.0 in
    subst (λ (p : CorePlannedView). IfOk c.submit.result (IsAnsweredFrom c.args.self.now p.change)) c.planned.view_is
    (IfOk-weaker c.submit.result (IsAnswered c.args.self.now c.planned.inside.answer.change) (IsAnsweredFrom c.args.self.now c.planned.inside.answer.change)
    (λ a by. answered-from c.args.self.now is c.planned.inside.answer.change a by) c.submit.ensures.answer)

pub returns-then-not-branch-clause-state : goal.returns-then-not-branch-clause-state
returns-then-not-branch-clause-state c =
    subst (λ (p : CorePlannedView). IfOk c.submit.result (λ answered. c.submit.new.self ≡ answered_by c.args.self.now answered.from p.change answered.verdict))
    c.planned.view_is c.submit.ensures.state

pub returns-then-not-branch-clause-history : goal.returns-then-not-branch-clause-history
returns-then-not-branch-clause-history c =
    subst
    (λ (p : CorePlannedView). IfOk c.submit.result (λ answered. (history : List Event) (caller : ℕ) → IsStateOf history c.args.self.now
    → CanSettleFrom history c.args.self.now.forgets p.snapshot
    → IsStateOf (history ++ Submit caller p.change answered.from answered.verdict answered.trail ∷ []) c.submit.new.self))
    c.planned.view_is
    (IfOk-weaker c.submit.result
    (λ answered. (history : List Event) (caller : ℕ) → IsStateOf history c.args.self.now
    → IsStateOf (history ++ Submit caller c.planned.inside.answer.change answered.from answered.verdict answered.trail ∷ []) c.submit.new.self)
    (λ answered. (history : List Event) (caller : ℕ) → IsStateOf history c.args.self.now
    → CanSettleFrom history c.args.self.now.forgets c.planned.inside.snapshot
    → IsStateOf (history ++ Submit caller c.planned.inside.answer.change answered.from answered.verdict answered.trail ∷ []) c.submit.new.self)
    (λ answered before history caller of can. before history caller of) c.submit.ensures.history)

pub returns-clause-answer : goal.returns-clause-answer
returns-clause-answer c =
    let led = subst (λ (v : CoreView). IsLedTo v c.planned.inside.snapshot) (sym c.self.view_is) (c.in_ok-is_led_to.ensures.led c.if-not-branch.false) in
    let kept = rw c.at_next-answer.ensures.same at c.kept-answer.ensures.made in
    let by =
    settled _ c.self.invariant.0 c.planned.inside.snapshot c.planned.invariant.0 led c.planned.inside.answer c.planned.invariant.1 c.kept-answer.result.made kept in
    let kept_is : c.kept-answer.result ≡ record (answer_at c.self.inside.state.cycle c.planned.inside.answer) { made = c.kept-answer.result.made } =
    c.kept-answer.ensures.same ∙ ap (λ (a : Answer). record a { made = c.kept-answer.result.made }) c.at_next-answer.ensures.same in
    let told = c.in_ok-answered.ensures.answered ∙ ap told_of kept_is in
    subst (λ (p : CorePlannedView). IsAnsweredFrom c.args.self.now p.change c.in_ok-answered.answered) c.planned.view_is
    (subst (λ (v : CoreView). IsAnsweredFrom v c.planned.inside.answer.change c.in_ok-answered.answered) c.self.view_is
    (subst (IsAnsweredFrom _ c.planned.inside.answer.change) (sym told) by.by))

pub returns-then-not-branch-clause-settled : goal.returns-then-not-branch-clause-settled
returns-then-not-branch-clause-settled c =
    let off = c.in_ok-is_led_to.ensures.apart c.if-not-branch.true in
    let by =
    pair-ok c.submit.result (IsAnswered c.args.self.now c.planned.inside.answer.change)
    (λ answered. IsTakenFrom c.args.self.now (state_of c.args.self.now) c.planned.inside.answer.change answered.verdict) c.submit.ensures.answer
    c.submit.ensures.complete in
    subst (λ (p : CorePlannedView). IfOk c.submit.result (IsSettled c.args.self.now p)) c.planned.view_is
    (IfOk-weaker c.submit.result
    (λ answered. IsAnswered c.args.self.now c.planned.inside.answer.change answered
    × IsTakenFrom c.args.self.now (state_of c.args.self.now) c.planned.inside.answer.change answered.verdict)
    (IsSettled c.args.self.now (view c.planned.inside.snapshot c.planned.inside.answer))
    (λ answered both. inr (record { apart = off; answer = both.0; due = both.1 })) by)

pub returns-clause-settled : goal.returns-clause-settled
returns-clause-settled c =
    let led = subst (λ (v : CoreView). IsLedTo v c.planned.inside.snapshot) (sym c.self.view_is) (c.in_ok-is_led_to.ensures.led c.if-not-branch.false) in
    let kept = rw c.at_next-answer.ensures.same at c.kept-answer.ensures.made in
    let by =
    settled _ c.self.invariant.0 c.planned.inside.snapshot c.planned.invariant.0 led c.planned.inside.answer c.planned.invariant.1 c.kept-answer.result.made kept in
    let kept_is : c.kept-answer.result ≡ record (answer_at c.self.inside.state.cycle c.planned.inside.answer) { made = c.kept-answer.result.made } =
    c.kept-answer.ensures.same ∙ ap (λ (a : Answer). record a { made = c.kept-answer.result.made }) c.at_next-answer.ensures.same in
    let told = c.in_ok-answered.ensures.answered ∙ ap told_of kept_is in
    let decides =
    by-plan _ c.self.invariant.0 c.planned.inside.snapshot c.planned.invariant.0 led c.planned.inside.answer c.planned.invariant.1 c.taken_where_due.ensures.taken
    c.kept-answer.result.made by in
    subst (λ (p : CorePlannedView). IsSettled c.args.self.now p c.in_ok-answered.answered) c.planned.view_is
    (subst (λ (v : CoreView). IsSettled v (view c.planned.inside.snapshot c.planned.inside.answer) c.in_ok-answered.answered) c.self.view_is
    (inl (subst (IsSettledByPlan _ (view c.planned.inside.snapshot c.planned.inside.answer)) (sym told) decides)))

pub returns-clause-state : goal.returns-clause-state
returns-clause-state c =
    let led = subst (λ (v : CoreView). IsLedTo v c.planned.inside.snapshot) (sym c.self.view_is) (c.in_ok-is_led_to.ensures.led c.if-not-branch.false) in
    let kept = rw c.at_next-answer.ensures.same at c.kept-answer.ensures.made in
    let by =
    settled _ c.self.invariant.0 c.planned.inside.snapshot c.planned.invariant.0 led c.planned.inside.answer c.planned.invariant.1 c.kept-answer.result.made kept in
    let kept_is : c.kept-answer.result ≡ record (answer_at c.self.inside.state.cycle c.planned.inside.answer) { made = c.kept-answer.result.made } =
    c.kept-answer.ensures.same ∙ ap (λ (a : Answer). record a { made = c.kept-answer.result.made }) c.at_next-answer.ensures.same in
    let from_is = sym (ap (λ (a : Answered). a.from) c.in_ok-answered.ensures.answered) in
    let verdict_is = sym (ap (λ (a : Answered). a.verdict) c.in_ok-answered.ensures.answered) in
    let change_is = ap (λ (a : Answer). a.change) kept_is ∙ by.change_is ∙ ap (λ (p : CorePlannedView). p.change) c.planned.view_is in
    c.in_ok-answered.ensures.state
    ∙ ap (λ (n : ℕ). answered_by c.args.self.now n c.kept-answer.result.change c.kept-answer.result.verdict) from_is
    ∙ ap (λ (ch : Change). answered_by c.args.self.now c.in_ok-answered.answered.from ch c.kept-answer.result.verdict) change_is
    ∙ ap (λ (v : Verdict). answered_by c.args.self.now c.in_ok-answered.answered.from c.args.planned.change v) verdict_is

pub returns-clause-history : goal.returns-clause-history
returns-clause-history c history caller of can =
    let led = subst (λ (v : CoreView). IsLedTo v c.planned.inside.snapshot) (sym c.self.view_is) (c.in_ok-is_led_to.ensures.led c.if-not-branch.false) in
    let kept = rw c.at_next-answer.ensures.same at c.kept-answer.ensures.made in
    let by =
    settled _ c.self.invariant.0 c.planned.inside.snapshot c.planned.invariant.0 led c.planned.inside.answer c.planned.invariant.1 c.kept-answer.result.made kept in
    let kept_is : c.kept-answer.result ≡ record (answer_at c.self.inside.state.cycle c.planned.inside.answer) { made = c.kept-answer.result.made } =
    c.kept-answer.ensures.same ∙ ap (λ (a : Answer). record a { made = c.kept-answer.result.made }) c.at_next-answer.ensures.same in
    let of_here = subst (IsStateOf history) (sym c.self.view_is) of in
    let can_here =
    subst (λ (v : CoreView). CanSettleFrom history v.forgets c.planned.inside.snapshot) (sym c.self.view_is)
    (subst (λ (p : CorePlannedView). CanSettleFrom history c.args.self.now.forgets p.snapshot) (sym c.planned.view_is) can) in
    let right =
    right-then _ c.self.invariant.0 c.planned.inside.snapshot c.planned.invariant.0 led c.planned.inside.answer c.planned.invariant.1 c.pruned_lists.ensures.verdict
    c.pruned_lists.ensures.trail history of_here can_here (answer_at c.self.inside.state.cycle c.planned.inside.answer) c.kept-answer.result.made by in
    let here =
    subst
    (λ (v : CoreView). IsRightAnswer v.rules history c.kept-answer.result.change c.kept-answer.result.from c.kept-answer.result.verdict c.kept-answer.result.trail
    × IsHeld v.forgets c.kept-answer.result.from (placed_of history) v.placed)
    c.self.view_is
    (subst
    (λ (a : Answer). IsRightAnswer c.self.inside.rules history a.change a.from a.verdict a.trail
    × IsHeld c.self.inside.forgets a.from (placed_of history) c.self.inside.table.placed.items)
    (sym kept_is) right) in
    let from_is = sym (ap (λ (a : Answered). a.from) c.in_ok-answered.ensures.answered) in
    let verdict_is = sym (ap (λ (a : Answered). a.verdict) c.in_ok-answered.ensures.answered) in
    let trail_is = sym (ap (λ (a : Answered). a.trail) c.in_ok-answered.ensures.answered) in
    let change_is = ap (λ (a : Answer). a.change) kept_is ∙ by.change_is ∙ ap (λ (p : CorePlannedView). p.change) c.planned.view_is in
    subst (λ (e : Event). IsStateOf (history ++ e ∷ []) c.put_where_room.new.self)
    (submit-same caller _ _ _ _ _ _ _ _ change_is from_is verdict_is trail_is) (c.in_ok-answered.ensures.history history caller of here.1 here.0)
