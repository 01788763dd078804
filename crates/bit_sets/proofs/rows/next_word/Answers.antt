use Rattle.std.proofs.Common.{sym, ap, ◌∙◌}
use Rattle.bit_sets.proofs.RowsLeft.{next-rows, rows_at}
use Rattle.bit_sets.proofs.rows.next_word.Goals as goal

pub returns-clause-rows : goal.returns-clause-rows
returns-clause-rows c =
    let rest = c.args.rest in
    next-rows rest.behind ∙ ap (λ n. rows_at 0 n rest.behind) (sym c.requires.done) ∙ ap (λ n. rows_at n rest.word rest.behind) (sym c.requires.low)
