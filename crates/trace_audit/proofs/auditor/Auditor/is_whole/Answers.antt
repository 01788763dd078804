use Rattle.std.proofs.Common.{◌≡◌, false, true, sym, subst, ◌∙◌}
use Rattle.trace_audit.specs.Auditing.{AnswersAllActs}
use Rattle.trace_audit.proofs.auditor.Auditor.is_whole.Goals as goal

pub returns-in-Some-clause-answered : goal.returns-in-Some-clause-answered
returns-in-Some-clause-answered c = λ is. subst (AnswersAllActs c.args.steps.now) c.in-Some.ensures.list (c.answers_all.ensures.all is)

pub returns-in-Some-clause-none : goal.returns-in-Some-clause-none
returns-in-Some-clause-none c = λ is keeps next answers.
    c.answers_all.ensures.not_all is (subst (AnswersAllActs c.args.steps.now) (sym c.in-Some.ensures.list) answers)

pub returns-in-None-clause-none : goal.returns-in-None-clause-none
returns-in-None-clause-none c = λ is keeps next answers.
    let none : false ≡ true = c.in-None.ensures.kept ∙ keeps in
    absurd (cc)
