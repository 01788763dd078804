use Rattle.std.proofs.Common.{refl, ap, ◌∙◌, ◌∷◌, [], ◌++◌}
use Rattle.master_core.specs.declared.event.Event.TheVariants.{Look}
use Rattle.replay_run.proofs.Going.{answered}
use Rattle.replay_run.proofs.bus.Bus.look.Goals as goal

pub returns-clause-on : goal.returns-clause-on
returns-clause-on c = λ setting trace going.
    answered (record { under_way = c.calls_between.ensures.under_way; ready = c.calls_between.ensures.ready }) setting trace c.args.self.now
    (record c.args.self.now { master = c.look.new.self })
    (Look c.args.caller c.look.result) refl (c.look.ensures.rules ∙ c.reserve.ensures.rules)
    (c.look.ensures.event ∙ ap (λ h. h ++ Look c.args.caller c.look.result ∷ []) c.reserve.ensures.history) (λ plain. c.look.ensures.plain (rw (c.reserve.ensures.rules, c.reserve.ensures.history) plain)) refl refl refl (c.look.ensures.keeps ∙ c.reserve.ensures.keeps) going
