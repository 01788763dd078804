use Rattle.std.proofs.Common.{sym, ap, ◌∙◌, arith}
use Rattle.planner_policies.specs.Plan.{Standing}
use Rattle.admission.proofs.Places.{on-passed}
use Rattle.admission.proofs.walk.PlanWalkWalk.begin.Goals as goal

pub pass_fitting-requires-clause-fits : goal.pass_fitting-requires-clause-fits
pass_fitting-requires-clause-fits c = grind arith

pub returns-clause-on : goal.returns-clause-on
returns-clause-on c =
    let walk = c.args.self.now in
    let first = walk.first in
    let old = c.in_ok-planner.planner in
    let standing = c.in_ok-planner.ensures.standing in
    let ranking = ap (λ (s : Standing). s.ranking) standing in
    let made = c.pass_fitting.ensures in
    on-passed walk.start.now.ranking walk.window old c.pass_fitting.new.self first ranking (ap (λ (s : Standing). s.ranking) made.standing ∙ ranking)
    (ap (λ (s : Standing). s.pending) made.standing) (sym (ap (λ (s : Standing). s.cycle) standing)) (sym (ap (λ (s : Standing). s.pending) standing))
    made.onward made.valid made.passed
