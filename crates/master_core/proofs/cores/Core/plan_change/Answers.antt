use Rattle.std.proofs.Common.{Bool, List, subst, sym, ℕ}
use Rattle.change_protocol.specs.Applied.{applied}
use Rattle.admission.specs.Verdict.{IsInTime, IsTakenWhereDue, plan_from}
use Rattle.master_core.specs.declared.event.Event.{Event}
use Rattle.master_core.specs.Answers.{IsAnswerAs}
use Rattle.master_core.specs.Cores.{CoreView, IsAnswered, IsStateAs}
use Rattle.master_core.specs.History.{IsRightAnswer}
use Rattle.master_core.proofs.CoreSteps.{answer-to}
use Rattle.master_core.proofs.States.{state-right}
use Rattle.master_core.proofs.cores.Core.plan_change.Goals as goal

pub returns-clause-answer : goal.returns-clause-answer
returns-clause-answer c =
    let planned = rw c.as_slice-placed.ensures.value at c.in_ok-answer.ensures.planned in
    subst (λ (v : CoreView). IsAnswerAs c.args.prunes v c.kept.result) c.self.view_is
    (subst (IsAnswerAs c.args.prunes _) (sym c.kept.ensures.same) (answer-to _ c.self.invariant.0 c.args.prunes c.in_ok-answer.answer c.kept.result.made planned c.kept.ensures.made))

pub returns-clause-answered : goal.returns-clause-answered
returns-clause-answered c =
    let planned = rw c.as_slice-placed.ensures.value at c.in_ok-answer.ensures.planned in
    let same = c.in_ok-answer.ensures.change in
    rw c.kept.ensures.same
    (subst (λ (v : CoreView). IsAnswered v c.args.change.now (record {
      from = c.in_ok-answer.answer.from;
      verdict = c.in_ok-answer.answer.verdict;
      trail = c.in_ok-answer.answer.trail;
    })) c.self.view_is
    (record {
      from = planned.from;
      verdict = rw same at planned.decided.answer;
      trail = rw same at planned.decided.plan;
    }))

pub returns-clause-complete : goal.returns-clause-complete
returns-clause-complete c =
    let due = rw c.as_slice-placed.ensures.value at c.in_ok-answer.ensures.complete in
    rw c.kept.ensures.same
    (subst
    (λ (v : CoreView). IsInTime v.rules v.placed v.cycle c.args.change.now
    → IsTakenWhereDue v.rules (plan_from v.rules (applied v.placed c.args.change.now) v.cycle v.pending) c.in_ok-answer.answer.verdict)
    c.self.view_is due)

pub returns-clause-right : goal.returns-clause-right
returns-clause-right c =
    let planned = rw c.as_slice-placed.ensures.value at c.in_ok-answer.ensures.planned in
    rw c.kept.ensures.same
    (subst
    (λ (v : CoreView). (held : Bool) (history : List Event) → IsStateAs held history v
    → IsRightAnswer v.rules history c.in_ok-answer.answer.change c.in_ok-answer.answer.from c.in_ok-answer.answer.verdict c.in_ok-answer.answer.trail)
    c.self.view_is
    (λ held history of.
    subst (λ (n : ℕ). IsRightAnswer c.self.inside.rules history c.in_ok-answer.answer.change n c.in_ok-answer.answer.verdict c.in_ok-answer.answer.trail)
    (sym planned.from)
    (state-right held history _ c.self.invariant.0 of c.pruned_lists.ensures.verdict c.pruned_lists.ensures.trail c.in_ok-answer.answer.change planned.types
    c.in_ok-answer.answer.verdict planned.decided.answer c.in_ok-answer.answer.trail planned.decided.plan)))
