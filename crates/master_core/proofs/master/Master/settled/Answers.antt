use Rattle.std.proofs.Common.{◌≡◌, ◌∙◌, subst, sym, arith}
use Rattle.master_core.specs.Answers.{IsAnswer, answer_at}
use Rattle.master_core.specs.Apart.{CanSettle, from_of}
use Rattle.master_core.specs.Keeping.{MasterView}
use Rattle.master_core.proofs.Settling.{kept-settled, settled-from}
use Rattle.master_core.proofs.Whole.{whole-kept}
use Rattle.master_core.proofs.master.Master.settled.Goals as goal

pub returns-clause-answer : goal.returns-clause-answer
returns-clause-answer c =
    let same : c.planned.inside.accepted ≡ c.accepted.result = grind arith in
    let can = subst (λ (v : MasterView). CanSettle v.rules v.history c.args.change.now c.args.planned) (sym c.self.view_is) c.requires.planned in
    rw (c.at_next.ensures.same, c.next.ensures.next)
    (subst (λ (v : MasterView). IsAnswer v.rules v.history (answer_at c.self.inside.core.cycle c.planned.inside.answer)) c.self.view_is
    (kept-settled _ _ _ _ _ _ _ _ (whole-kept _ _ c.known.ensures.core c.self.invariant.0 c.self.invariant.1) c.args.change.now c.args.planned c.planned.inside.rules
    c.planned.inside.accepted c.planned.inside.answer c.planned.view_is (same ∙ c.accepted.ensures.accepted ∙ c.self.invariant.0.counted) can c.planned.invariant.0
    c.planned.invariant.1))

pub returns-clause-from : goal.returns-clause-from
returns-clause-from c =
    let same : c.planned.inside.accepted ≡ c.accepted.result = grind arith in
    rw (c.at_next.ensures.same, c.next.ensures.next)
    (subst (λ (v : MasterView). (answer_at c.self.inside.core.cycle c.planned.inside.answer).from ≡ from_of v.history c.args.planned) c.self.view_is
    (settled-from _ _ _ _ _ _ _ _ (whole-kept _ _ c.known.ensures.core c.self.invariant.0 c.self.invariant.1) c.args.change.now c.args.planned c.planned.inside.rules
    c.planned.inside.accepted c.planned.inside.answer c.planned.view_is (same ∙ c.accepted.ensures.accepted ∙ c.self.invariant.0.counted) c.self.inside.core.cycle))
