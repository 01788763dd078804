use Rattle.std.proofs.Common.{arith}
use Rattle.std.proofs.lemmas.Bool.{eqb-true}
use Rattle.plan_check.proofs.Lasting.{filled-again, filled-fewer, rounds-later}
use Rattle.plan_check.proofs.blocks.renew.Goals as goal

pub returns-then-count-last-clause-filled : goal.returns-then-count-last-clause-filled
returns-then-count-last-clause-filled c =
    let last = c.requires.last c.if-last.true in
    filled-fewer c.args.placed.now c.args.cycle c.args.last.now.cycles c.args.count c.args.last.now.block c.if-count-last.true last.0

pub returns-then-count-last-clause-last : goal.returns-then-count-last-clause-last
returns-then-count-last-clause-last c = grind (arith, eqb-true, filled-again, rounds-later)

pub returns-else-last-clause-last : goal.returns-else-last-clause-last
returns-else-last-clause-last c = grind (arith, filled-again, rounds-later)

pub all_go_round-last-requires-clause-current : goal.all_go_round-last-requires-clause-current
all_go_round-last-requires-clause-current c = grind arith
