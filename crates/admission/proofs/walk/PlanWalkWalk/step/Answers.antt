use Rattle.std.proofs.Common.{◌+◌, ◌<◌, ◌≤◌, refl, ap, ◌∙◌, arith}
use Rattle.planner_policies.specs.declared.state.PlanState.{PlanState}
use Rattle.planner_policies.specs.Plan.{Ranking, Standing}
use Rattle.admission.specs.Course.{state_behind, state_in}
use Rattle.admission.proofs.Places.{behind-passed, on-next, on-passed, stands-here}
use Rattle.admission.proofs.Same.{behind-missed, behind-planned}
use Rattle.admission.proofs.walk.PlanWalkWalk.step.Goals as goal

pub returns-then-here-state-clause-next : goal.returns-then-here-state-clause-next
returns-then-here-state-clause-next c =
    let here = c.args.here.now in
    let walk = c.args.self.now in
    let less : here.state.cycle < here.planner.cycle = omega (arith, c.if-here-state.true, c.state.ensures.cycle) in
    behind-passed walk.start.now.ranking walk.window here.planner here.state c.requires.on (record { cycle = here.state.cycle + 1; pending = here.state.pending })
    refl refl less

pub returns-in-Ok-clause-next : goal.returns-in-Ok-clause-next
returns-in-Ok-clause-next c =
    let here = c.args.here.now in
    let planner = here.planner in
    let walk = c.args.self.now in
    let on = c.requires.on in
    let not_later : planner.cycle ≤ here.state.cycle = omega (arith, c.if-here-state.false, c.state.ensures.cycle) in
    behind-planned planner.ranking walk.window (state_in planner) c.state-here.result c.in-Ok.ensures.none_missed
    (c.state-here.ensures.cycle ∙ ap (λ (s : Standing). s.cycle) c.in-Ok.ensures.next)
    (c.state-here.ensures.pending ∙ ap (λ (s : Standing). s.pending) c.in-Ok.ensures.next)
    ∙ ap (λ (r : Ranking). state_behind r walk.window (state_in planner)) on.ranking_is
    ∙ ap (λ (s : PlanState). state_behind walk.start.now.ranking walk.window s)
    (stands-here walk.start.now.ranking walk.window planner here.state on not_later)

pub returns-in-Err-clause-next : goal.returns-in-Err-clause-next
returns-in-Err-clause-next c = grind (arith, behind-missed, stands-here)

pub pass_fitting-requires-clause-fits : goal.pass_fitting-requires-clause-fits
pass_fitting-requires-clause-fits c = grind arith

pub returns-then-here-state-clause-on : goal.returns-then-here-state-clause-on
returns-then-here-state-clause-on c =
    let here = c.args.here.now in
    let walk = c.args.self.now in
    let less : here.state.cycle < here.planner.cycle = omega (arith, c.if-here-state.true, c.state.ensures.cycle) in
    on-next walk.start.now.ranking walk.window here.planner here.state c.requires.on (record { cycle = here.state.cycle + 1; pending = here.state.pending })
    refl refl less

pub returns-in-Ok-clause-on : goal.returns-in-Ok-clause-on
returns-in-Ok-clause-on c =
    let walk = c.args.self.now in
    let ranking = ap (λ (s : Standing). s.ranking) c.in-Ok.ensures.next ∙ c.requires.on.ranking_is in
    let made = c.pass_fitting.ensures in
    on-passed walk.start.now.ranking walk.window c.step.new.self c.pass_fitting.new.self c.state-here.result ranking
    (ap (λ (s : Standing). s.ranking) made.standing ∙ ranking) (ap (λ (s : Standing). s.pending) made.standing) c.state-here.ensures.cycle
    c.state-here.ensures.pending made.onward made.valid made.passed
