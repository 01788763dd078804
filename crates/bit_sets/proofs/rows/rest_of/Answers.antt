use Rattle.bit_sets.proofs.RowsLeft.{whole-set}
use Rattle.bit_sets.proofs.rows.rest_of.Goals as goal

pub returns-clause-rows : goal.returns-clause-rows
returns-clause-rows c = rw (c.low_word.ensures.word, c.high_word.ensures.word) (whole-set c.args.set)
