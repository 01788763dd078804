use Rattle.std.proofs.Common.{◌∙◌, refl}
use Rattle.replay_run.proofs.Tails.{holds-none}
use Rattle.replay_run.proofs.listener.Tail.new.Goals as goal

pub returns-clause-none : goal.returns-clause-none
returns-clause-none c =
    holds-none (record { older = c.behind.result; newer = c.behind-2.result; count = 0; most = c.args.rows })
    (c.behind.ensures.text ∙ c.new.ensures.items) (c.behind-2.ensures.text ∙ c.new-2.ensures.items) refl
