use Rattle.std.proofs.Common.{◌+◌, ◌≤◌, refl, arith}
use Rattle.admission.proofs.Stretched.{on-later, stretch-none, stretch-passed}
use Rattle.admission.proofs.walk.PlanWalkKeyed.pass.Goals as goal

pub returns-then-ahead-here-clause-stretch : goal.returns-then-ahead-here-clause-stretch
returns-then-ahead-here-clause-stretch c = grind (arith, stretch-none)

pub returns-clause-stretch : goal.returns-clause-stretch
returns-clause-stretch c =
    let walk = c.args.self.now in
    let here = c.args.here.now in
    let steps = c.min-steps.result in
    let within : here.state.cycle + steps ≤ here.planner.cycle
    = omega (arith, c.min-steps.ensures, c.if-ahead-here.false, c.state-ahead.ensures.cycle) in
    stretch-passed walk.start.now.ranking walk.window here.planner here.state (record { cycle = here.state.cycle + steps; pending = here.state.pending }) steps
    c.requires.on refl refl within walk.first walk.bound walk.period c.known_behind-known.result.key c.requires.good.begun
    (λ k below. c.known_behind-known.ensures.keys k (omega (arith, below, c.min.ensures, c.min-steps.ensures)))

pub returns-clause-on : goal.returns-clause-on
returns-clause-on c =
    let walk = c.args.self.now in
    let here = c.args.here.now in
    let steps = c.min-steps.result in
    let within : here.state.cycle + steps ≤ here.planner.cycle
    = omega (arith, c.min-steps.ensures, c.if-ahead-here.false, c.state-ahead.ensures.cycle) in
    on-later walk.start.now.ranking walk.window here.planner here.state (record { cycle = here.state.cycle + steps; pending = here.state.pending }) steps
    c.requires.on refl refl within
