use Rattle.std.proofs.Common.{List, ◌∙◌, ap, sym, take}
use Rattle.std.specs.List.{sum_by}
use Rattle.planner_policies.specs.Due.{IsSetOf}
use Rattle.planner_policies.specs.declared.due.Due.{Due}
use Rattle.planner_policies.proofs.TakenFront.{taken-front}
use Rattle.planner_policies.proofs.planning.plan_of_front.Goals as goal

pub returns-clause-planned : goal.returns-clause-planned
returns-clause-planned c =
    let line = c.args.line.now in
    let front = c.front_of-front in
    let made : IsSetOf front.result.mask (take front.result.count line) = record { slots = front.ensures.slots; below = front.ensures.below } in
    rw (taken-front c.args.w front.result.count line front.ensures.longest) made

pub returns-clause-width : goal.returns-clause-width
returns-clause-width c =
    let line = c.args.line.now in
    let front = c.front_of-front in
    front.ensures.width
    ∙ ap (λ (xs : List Due). sum_by (λ due. due.cost) xs) (sym (taken-front c.args.w front.result.count line front.ensures.longest))
