use Rattle.std.proofs.Common.{◌+◌, slice_index_or}
use Rattle.plan_check.proofs.WordSums.{IsCounted}
use Rattle.plan_check.proofs.widths.word_width.Given as goal

abbrev pub decreases-loop-left : goal.decreases-loop-left
decreases-loop-left l = l.left

abbrev pub invariant-loop-left : goal.invariant-loop-left
invariant-loop-left l = IsCounted (λ slot. slice_index_or l.costs (l.base + slot) 0) l.word l.left l.sum
