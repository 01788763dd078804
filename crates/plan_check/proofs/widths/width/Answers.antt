use Rattle.std.proofs.Common.{slice_index_or, arith}
use Rattle.bit_sets.proofs.Shared.{sum_where-costs}
use Rattle.plan_check.proofs.WordSums.{sum_where-words}
use Rattle.plan_check.proofs.widths.width.Goals as goal

pub returns : goal.returns
returns c = grind (arith, sum_where-words, slice_index_or, sum_where-costs)
