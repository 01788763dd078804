use Rattle.std.proofs.Common.{sym, subst}
use Rattle.change_protocol.specs.Applied.{applied}
use Rattle.admission.specs.declared.decision.Decision.{Decision}
use Rattle.admission.specs.Verdict.{IsTakenWhereDue, plan_from}
use Rattle.admission.proofs.deciding.decide.Goals as goal

pub returns-clause-complete : goal.returns-clause-complete
returns-clause-complete c in' =
    let rules = c.args.rules.now in
    let state = c.args.state.now in
    subst
    (λ (d : Decision). IsTakenWhereDue rules (plan_from rules (applied c.args.placed.now c.args.change.now) state.cycle state.pending) d.verdict)
    (sym c.decision.ensures.decision) (c.in_ok-judgement.ensures.complete in')
