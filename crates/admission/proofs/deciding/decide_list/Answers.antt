use Rattle.std.proofs.Common.{◌≡◌, ◌+◌, Option, Some, None, IfSome, List, ap, refl, ◌∙◌, subst, sym}
use Rattle.requirement_table.specs.declared.entries.Placed.{Placed}
use Rattle.planner_policies.specs.Plan.{planning_of}
use Rattle.admission.specs.declared.decision.RankedTable.{RankedTable}
use Rattle.admission.specs.Judged.{IsRankedFrom, decision_in}
use Rattle.admission.specs.Verdict.{IsDecisionOnPlan, IsMissDecision, IsTakenWhereDue, plan_from}
use Rattle.admission.proofs.Decided.{accepted, if_ok-weaker, missed, missed-due, on-list, ranked-from, refused, refused-due, safe, walked-missed, walked-none}
use Rattle.admission.proofs.deciding.decide_list.Goals as goal

pub returns-in-Ok-clause-decision : goal.returns-in-Ok-clause-decision
returns-in-Ok-clause-decision c =
    accepted _ _ _ _ _ _ _ _ _ (on-list c.args.list.items c.as_slice-2.ensures.value c.walk_over-walk.ensures.walked)
    c.in-Ok.field-0.first c.in-Ok.field-0.length _ c.in-Ok.ensures.repeat c.in-Ok.ensures.within refl
    (ap (λ (l : List Placed). Some l) c.of.ensures.list) (c.of-in-Ok.ensures.list ∙ c.new.ensures.items)

pub returns-in-Ok-clause-safe : goal.returns-in-Ok-clause-safe
returns-in-Ok-clause-safe c =
    safe _ _ _ _ _ _ _ _ _ (on-list c.args.list.items c.as_slice-2.ensures.value c.walk_over-walk.ensures.walked)
    c.in-Ok.field-0.first (c.in-Ok.field-0.first + c.in-Ok.field-0.length) c.of.result c.of.ensures.list c.in-Ok.ensures.repeat

pub returns-in-Ok-clause-ranked : goal.returns-in-Ok-clause-ranked
returns-in-Ok-clause-ranked c =
    ranked-from _ _ _ _ _ _ _ _ _ (on-list c.args.list.items c.as_slice-2.ensures.value c.walk_over-walk.ensures.walked) _ c.of.ensures.list
    (rw c.as_slice.ensures.value at c.in_ok-start.ensures.standing)

pub missed-requires-clause-none_before : goal.missed-requires-clause-none_before
missed-requires-clause-none_before c =
    let ends = rw c.in-Err-Broken.field-0-is at c.in-Err-Broken.ensures.ends in
    walked-none _ _ _ _ _ _ _ _ _ (on-list c.args.list.items c.as_slice-2.ensures.value c.walk_over-walk.ensures.walked) c.in-Err-Broken.at ends.1

pub missed-requires-clause-missed : goal.missed-requires-clause-missed
missed-requires-clause-missed c =
    let ends = rw c.in-Err-Broken.field-0-is at c.in-Err-Broken.ensures.ends in
    walked-missed _ _ _ _ _ _ _ _ _ (on-list c.args.list.items c.as_slice-2.ensures.value c.walk_over-walk.ensures.walked) c.in-Err-Broken.at ends.1

pub returns-in-Err-Broken-clause-decision : goal.returns-in-Err-Broken-clause-decision
returns-in-Err-Broken-clause-decision c =
    let ends = rw c.in-Err-Broken.field-0-is at c.in-Err-Broken.ensures.ends in
    let walk = c.walk_over-walk.result in
    if_ok-weaker c.missed.result
    (λ judgement. IsMissDecision (planning_of walk.start.now.ranking walk.window walk.first.cycle walk.first.pending) c.in-Err-Broken.at (decision_in judgement))
    (λ judgement. IsDecisionOnPlan c.args.rules.now.horizon
    (plan_from c.args.rules.now c.args.list.items c.args.state.now.cycle c.args.state.now.pending) (decision_in judgement))
    c.missed.ensures.missed
    (λ judgement miss.
    missed _ _ _ _ _ _ _ _ _ (on-list c.args.list.items c.as_slice-2.ensures.value c.walk_over-walk.ensures.walked) c.in-Err-Broken.at (decision_in judgement) ends.0
    ends.1 miss)

pub returns-in-Err-Broken-clause-complete : goal.returns-in-Err-Broken-clause-complete
returns-in-Err-Broken-clause-complete c =
    let walk = c.walk_over-walk.result in
    if_ok-weaker c.missed.result
    (λ judgement. IsMissDecision (planning_of walk.start.now.ranking walk.window walk.first.cycle walk.first.pending) c.in-Err-Broken.at (decision_in judgement))
    (λ judgement. IsTakenWhereDue c.args.rules.now
    (plan_from c.args.rules.now c.args.list.items c.args.state.now.cycle c.args.state.now.pending) judgement.verdict)
    c.missed.ensures.missed
    (λ judgement miss.
    missed-due _ _ _ _ _ _ _ _ _ (on-list c.args.list.items c.as_slice-2.ensures.value c.walk_over-walk.ensures.walked) c.in-Err-Broken.at (decision_in judgement)
    miss)

pub returns-in-Err-Broken-clause-ranked : goal.returns-in-Err-Broken-clause-ranked
returns-in-Err-Broken-clause-ranked c =
    if_ok-weaker c.missed.result (λ judgement. judgement.table ≡ None)
    (λ judgement. IfSome judgement.table (IsRankedFrom c.args.rules.now c.args.state.now.cycle c.args.state.now.pending)) c.missed.ensures.none
    (λ judgement none.
    subst (λ (o : Option RankedTable). IfSome o (IsRankedFrom c.args.rules.now c.args.state.now.cycle c.args.state.now.pending)) (sym none) tt)

pub returns-in-Err-NoRepeat-clause-decision : goal.returns-in-Err-NoRepeat-clause-decision
returns-in-Err-NoRepeat-clause-decision c =
    let ends = rw c.in-Err-NoRepeat.field-0-is at c.in-Err-NoRepeat.ensures.ends in
    refused _ _ _ _ _ _ _ _ _ (on-list c.args.list.items c.as_slice-2.ensures.value c.walk_over-walk.ensures.walked) c.in-Err-NoRepeat.walked
    (decision_in c.refusal.result)
    ends.0 ends.1 c.refusal.ensures.verdict c.refusal.ensures.placed c.refusal.ensures.trail

pub returns-in-Err-NoRepeat-clause-complete : goal.returns-in-Err-NoRepeat-clause-complete
returns-in-Err-NoRepeat-clause-complete c =
    let ends = rw c.in-Err-NoRepeat.field-0-is at c.in-Err-NoRepeat.ensures.ends in
    refused-due _ _ _ _ _ _ _ _ _ (on-list c.args.list.items c.as_slice-2.ensures.value c.walk_over-walk.ensures.walked)
    c.in-Err-NoRepeat.walked c.refusal.result.verdict ends.0 ends.1
