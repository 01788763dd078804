use Rattle.std.proofs.Common.{◌+◌, arith, drop, rules, subst, sym, take}
use Rattle.std.specs.List.{flat_map}
use Rattle.replay_run.specs.Run.{calls_of}
use Rattle.replay_run.proofs.Steps.{calls-of_steps}
use Rattle.replay_run.proofs.driver.drive.Goals as goal

pub returns-in_err-take_step-clause-stops : goal.returns-in_err-take_step-clause-stops
returns-in_err-take_step-clause-stops g c =
    let stops = g.met.D.Driven.stops_later c.args.driven.now c.loop-step.driven c.take_step.new.driven
    (flat_map calls_of (take c.loop-step.step-index c.args.steps.now)) (calls_of c.step-item.result)
    (flat_map calls_of (drop (c.loop-step.step-index + 1) c.args.steps.now)) c.in_err-take_step.field-0.0 c.loop-step.invariant.goes_on c.in_err-take_step.ensures.stops in
    let all = subst (λ calls. g.D.Driven.stops c.args.driven.now calls c.take_step.new.driven c.in_err-take_step.field-0.0)
    (calls-of_steps c.args.steps.now c.loop-step.step-index c.step-item.result c.step-item.result (omega arith) (sym c.step-item.is)) stops in
    search (rules, all)
