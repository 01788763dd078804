use Rattle.std.proofs.Common.{◌^◌, ◌<◌, rules}
use Rattle.bit_sets.proofs.Lowest.{lowest-less}
use Rattle.bit_sets.proofs.RowsLeft.{less-rows}
use Rattle.bit_sets.proofs.rows.without_first.Goals as goal

pub returns-clause-less : goal.returns-clause-less
returns-clause-less c = lowest-less c.args.rest.word c.requires.some

pub returns-clause-rows : goal.returns-clause-rows
returns-clause-rows c = λ row stands none i.
    let rest = c.args.rest in
    let below : rest.word < 2 ^ 64 = search rules in
    less-rows rest.base rest.word rest.behind c.requires.some below row stands none i
