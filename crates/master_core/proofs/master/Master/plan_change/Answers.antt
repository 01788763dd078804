use Rattle.std.proofs.Common.{◌≡◌, ◌∙◌, Bool, false, List, subst, IfOk}
use Rattle.std.proofs.lemmas.Result.{IfOk-weaker}
use Rattle.change_protocol.specs.Applied.{applied}
use Rattle.admission.specs.Verdict.{IsInTime, IsTakenWhereDue, plan_from}
use Rattle.master_core.specs.declared.event.Event.{Event}
use Rattle.master_core.specs.Answers.{IsAnswer, IsAnswerAs}
use Rattle.master_core.specs.Cores.{IsAnswered, IsStateAs}
use Rattle.master_core.specs.History.{IsRightAnswer, next_of}
use Rattle.master_core.specs.Keeping.{MasterView}
use Rattle.master_core.proofs.Certificates.{IsDue, kept-due}
use Rattle.master_core.proofs.Whole.{both-ok, whole-answer, whole-kept}
use Rattle.master_core.proofs.master.Master.plan_change.Goals as goal

pub returns-clause-answer : goal.returns-clause-answer
returns-clause-answer c =
    subst (λ (v : MasterView). IfOk c.plan_change.result (IsAnswer v.rules v.history)) c.self.view_is
    (both-ok c.plan_change.result (IsAnswerAs false c.self.inside.core)
    (λ answer. (held : Bool) (history : List Event) → IsStateAs held history c.self.inside.core
    → IsRightAnswer c.self.inside.core.rules history answer.change answer.from answer.verdict answer.trail)
    (IsAnswer c.self.inside.core.rules c.self.inside.history.items)
    (λ answer to right.
    whole-answer _ _ c.known.ensures.core c.self.invariant.0 c.self.invariant.1 answer (right _ c.self.inside.history.items c.self.invariant.0) to)
    c.plan_change.ensures.answer c.plan_change.ensures.right)

pub returns-clause-from : goal.returns-clause-from
returns-clause-from c =
    subst (λ (v : MasterView). IfOk c.plan_change.result (λ answer. answer.from ≡ next_of v.history)) c.self.view_is
    (IfOk-weaker c.plan_change.result
    (λ answer. IsAnswered c.self.inside.core c.args.change.now (record { from = answer.from; verdict = answer.verdict; trail = answer.trail }))
    (λ answer. answer.from ≡ next_of c.self.inside.history.items) (λ answer is. is.from ∙ c.self.invariant.0.next) c.plan_change.ensures.answered)

pub returns-clause-complete : goal.returns-clause-complete
returns-clause-complete c =
    subst (λ (v : MasterView). IfOk c.plan_change.result (λ answer. IsDue v.rules v.history c.args.change.now answer.verdict)) c.self.view_is
    (IfOk-weaker c.plan_change.result
    (λ answer. IsInTime c.self.inside.core.rules c.self.inside.core.placed c.self.inside.core.cycle c.args.change.now
    → IsTakenWhereDue c.self.inside.core.rules
    (plan_from c.self.inside.core.rules (applied c.self.inside.core.placed c.args.change.now) c.self.inside.core.cycle c.self.inside.core.pending) answer.verdict)
    (λ answer. IsDue c.self.inside.core.rules c.self.inside.history.items c.args.change.now answer.verdict)
    (λ answer is.
    kept-due _ _ _ _ _ _ _ _ (whole-kept _ _ c.known.ensures.core c.self.invariant.0 c.self.invariant.1) c.args.change.now answer.verdict is)
    c.plan_change.ensures.complete)
