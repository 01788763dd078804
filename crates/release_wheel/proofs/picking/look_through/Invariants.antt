use Rattle.std.proofs.Common.{◌≡◌}
use Rattle.release_wheel.specs.Taking.{IsSoonest}
use Rattle.bit_sets.specs.Rows.{rows_left}
use Rattle.release_wheel.proofs.picking.look_through.Given as goal

abbrev pub invariant-loop-rest : goal.invariant-loop-rest
invariant-loop-rest l = record {
  soonest : IsSoonest l.lasts l.rows (rows_left l.rest) l.row l.last;
  base : l.rest.base ≡ l.fn.soonest.rest.base;
  behind : l.rest.behind ≡ l.fn.soonest.rest.behind;
}

abbrev pub decreases-loop-rest : goal.decreases-loop-rest
decreases-loop-rest l = l.rest.word
