use Rattle.std.proofs.Common.{◌^◌, ◌<◌, rules}
use Rattle.bit_sets.proofs.RowsLeft.{first-none, first-stands}
use Rattle.bit_sets.proofs.rows.first_left.Goals as goal

pub returns-clause-stands : goal.returns-clause-stands
returns-clause-stands c =
    let rest = c.args.rest in
    let below : rest.word < 2 ^ 64 = search rules in
    rw c.from.ensures (first-stands rest.base rest.word rest.behind c.requires.some below)

pub returns-clause-none_before : goal.returns-clause-none_before
returns-clause-none_before c =
    let rest = c.args.rest in
    let below : rest.word < 2 ^ 64 = search rules in
    rw c.from.ensures (first-none rest.base rest.word rest.behind c.requires.some below)
