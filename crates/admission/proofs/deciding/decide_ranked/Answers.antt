use Rattle.std.proofs.Common.{List, IfOk, subst}
use Rattle.requirement_table.specs.declared.entries.Placed.{Placed}
use Rattle.admission.specs.Verdict.{IsInTime, IsTakenWhereDue, plan_from}
use Rattle.admission.proofs.Changed.{held-changed}
use Rattle.admission.proofs.Decided.{if_ok-weaker}
use Rattle.admission.proofs.deciding.decide_ranked.Goals as goal

pub decide_list-requires-clause-valid : goal.decide_list-requires-clause-valid
decide_list-requires-clause-valid c =
    held-changed c.args.change.now.start c.args.state.now.cycle c.args.state.now.pending c.args.placed.now c.in-Ok.list.items c.in-Ok.ensures.changed
    c.if-change-state.false c.requires.valid

pub returns-clause-complete : goal.returns-clause-complete
returns-clause-complete c =
    let rules = c.args.rules.now in
    let state = c.args.state.now in
    subst
    (λ (list : List Placed). IfOk c.decide_list.result (λ judgement. IsInTime rules c.args.placed.now state.cycle c.args.change.now
    → IsTakenWhereDue rules (plan_from rules list state.cycle state.pending) judgement.verdict))
    c.in-Ok.ensures.ok
    (if_ok-weaker c.decide_list.result
    (λ judgement. IsTakenWhereDue rules (plan_from rules c.in-Ok.list.items state.cycle state.pending) judgement.verdict)
    (λ judgement. IsInTime rules c.args.placed.now state.cycle c.args.change.now
    → IsTakenWhereDue rules (plan_from rules c.in-Ok.list.items state.cycle state.pending) judgement.verdict)
    c.decide_list.ensures.complete (λ judgement due in'. due))
