use Rattle.std.proofs.Common.{nat_le, ◌≡◌}
use Rattle.release_wheel.specs.Taking.{IsTaking}
use Rattle.bit_sets.specs.Rows.{rows_left}
use Rattle.release_wheel.proofs.taking.take_word.Given as goal

abbrev pub invariant-loop-rest : goal.invariant-loop-rest
invariant-loop-rest l = record {
  taking : IsTaking l.fill l.w nat_le l.entries l.due (rows_left l.rest) l.left l.mask l.width;
  base : l.rest.base ≡ l.fn.taking.rest.base;
  behind : l.rest.behind ≡ l.fn.taking.rest.behind;
}

abbrev pub decreases-loop-rest : goal.decreases-loop-rest
decreases-loop-rest l = l.rest.word
