use Rattle.std.proofs.Common.{replicate, ◌+◌, ◌-◌, subst, ◌∷◌, [], rules}
use Rattle.master_core.specs.Calls.{opens}
use Rattle.replay_run.proofs.Steps.{calls-of_cycles}
use Rattle.replay_run.proofs.driver.open_cycles.Goals as goal

pub returns-in_err-open_cycle-clause-stops : goal.returns-in_err-open_cycle-clause-stops
returns-in_err-open_cycle-clause-stops g c =
    let stops = g.met.D.Driven.stops_later c.args.driven.now c.loop.driven c.open_cycle.new.self (replicate c.loop.counter opens) (opens ∷ [])
    (replicate (c.args.count - (c.loop.counter + 1)) opens) c.in_err-open_cycle.field-0.0 c.loop.invariant.goes_on c.in_err-open_cycle.ensures.stops in
    let all = subst (λ calls. g.D.Driven.stops c.args.driven.now calls c.open_cycle.new.self c.in_err-open_cycle.field-0.0)
    (calls-of_cycles c.loop.counter c.args.count c.loop-test.true) stops in
    search (rules, all)
