use Rattle.std.proofs.Common.{◌+◌, slice_index_or, arith}
use Rattle.plan_check.proofs.WordSums.{counted-end, counted-next}
use Rattle.plan_check.proofs.widths.word_width.Goals as goal

pub loop-left-preserved : goal.loop-left-preserved
loop-left-preserved c = grind (arith, counted-next, slice_index_or)

pub returns-clause-width : goal.returns-clause-width
returns-clause-width c =
    counted-end (λ slot. slice_index_or c.args.costs.now (c.args.base + slot) 0) c.args.word c.loop-left.left c.loop-left.sum (omega arith)
    c.loop-left.invariant
