use Rattle.std.proofs.Common.{◌∙◌, ap, true}
use Rattle.master_core.specs.Cores.{CoreView}
use Rattle.master_core.proofs.Growing.{answered-placed}
use Rattle.master_core.proofs.Whole.{answered-same}
use Rattle.master_core.proofs.lean.put_event.Goals as goal

pub returns-clause-rules : goal.returns-clause-rules
returns-clause-rules c =
    ap (λ (v : CoreView). v.rules) (c.put-change.ensures.state true c.requires.answer)
    ∙ (answered-same true c.args.core.now c.args.answer.from c.args.answer.change c.args.answer.verdict).0

pub returns-clause-forgets : goal.returns-clause-forgets
returns-clause-forgets c =
    ap (λ (v : CoreView). v.forgets) (c.put-change.ensures.state true c.requires.answer)
    ∙ (answered-same true c.args.core.now c.args.answer.from c.args.answer.change c.args.answer.verdict).1
    ∙ c.requires.forgets

pub returns-clause-placed : goal.returns-clause-placed
returns-clause-placed c =
    ap (λ (v : CoreView). v.placed) (c.put-change.ensures.state true c.requires.answer)
    ∙ answered-placed c.args.core.now c.args.answer.from c.args.answer.change c.args.answer.verdict

pub returns-clause-state : goal.returns-clause-state
returns-clause-state c =
    rw (c.put.ensures.history, c.put-change.ensures.change, c.put-change.ensures.answered)
    (c.put-change.ensures.history true _ c.args.caller c.requires.answer c.requires.state c.requires.held c.requires.right)
