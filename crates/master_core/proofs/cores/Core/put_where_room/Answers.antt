use Rattle.std.proofs.Common.{◌∙◌, ap}
use Rattle.master_core.specs.Cores.{CoreView}
use Rattle.master_core.proofs.Whole.{answered-same, state-by}
use Rattle.master_core.proofs.cores.Core.put_where_room.Goals as goal

pub returns-clause-history : goal.returns-clause-history
returns-clause-history c history caller of held right =
    let core = c.args.self.now in
    state-by core.forgets _ _
    (ap (λ (v : CoreView). v.forgets) (c.put-answered.ensures.state core.forgets c.requires.answer)
    ∙ (answered-same core.forgets core c.args.answer.from c.args.answer.change c.args.answer.verdict).1)
    (c.put-answered.ensures.history core.forgets history caller c.requires.answer of held right)
