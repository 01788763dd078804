use Rattle.std.proofs.Common.{ap, refl, ◌∙◌}
use Rattle.std.specs.Prelude.{◌&&◌}
use Rattle.master_core.specs.Accepted.{refuses_nothing}
use Rattle.poll_run.proofs.Carrying.{answered-on}
use Rattle.poll_run.proofs.polled.Polled.answer.Goals as goal

pub returns-clause-on : goal.returns-clause-on
returns-clause-on c = λ setting streams trace is.
    answered-on (record { under_way = c.calls_between.ensures.under_way; rows = c.rows_appended.ensures.called }) setting streams trace c.args.self.now
    (record c.args.self.now { bus = c.answer.new.self; quiet = c.args.self.now.quiet && c.refuses_nothing.result })
    c.args.caller c.args.act.now c.in_ok-answer.ensures.on c.in_ok-answer.ensures.calls refl refl refl
    (λ event ends. ap (λ b. c.args.self.now.quiet && b)
    (c.refuses_nothing.ensures.test
    ∙ ap refuses_nothing (c.last.ensures.last c.args.self.now.bus.master.history event ends)))
    is
