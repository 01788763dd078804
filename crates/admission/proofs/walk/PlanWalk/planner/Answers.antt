use Rattle.std.proofs.Common.{◌≡◌, IfOk, subst}
use Rattle.planner_policies.specs.Plan.{Standing}
use Rattle.admission.proofs.Places.{same-standing}
use Rattle.admission.proofs.walk.PlanWalk.planner.Goals as goal

pub returns : goal.returns
returns c =
    let walk = c.args.self.now in
    record {
      standing = subst (λ (s : Standing). IfOk c.ahead.result (λ planner. planner ≡ s)) (same-standing walk.start.now walk.first walk.cycle walk.pending)
          c.ahead.ensures.same;
    }
