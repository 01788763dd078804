use Rattle.std.proofs.Common.{refl}
use Rattle.master_core.specs.declared.event.Event.TheVariants.{Submit}
use Rattle.master_core.specs.History.{next_of}
use Rattle.replay_run.proofs.Going.{answered}
use Rattle.replay_run.proofs.bus.Bus.ask.Goals as goal

pub returns-clause-on : goal.returns-clause-on
returns-clause-on c = λ setting trace going.
    let (trail, event) = c.in_ok-submit.ensures.event in
    answered (record { under_way = c.calls_between.ensures.under_way; ready = c.calls_between.ensures.ready }) setting trace c.args.self.now
    (record c.args.self.now { master = c.submit.new.self })
    (Submit c.args.caller c.args.change.now (next_of c.args.self.now.master.history) c.in_ok-submit.field-0 trail) refl
    c.submit.ensures.rules event c.submit.ensures.plain refl refl refl c.submit.ensures.keeps going
