use Rattle.std.proofs.Common.{◌≡◌}
use Rattle.bit_sets.specs.Sets.{has_bit}
use Rattle.release_wheel.specs.Wheel.{IsReleasing}
use Rattle.bit_sets.specs.Rows.{rows_left}
use Rattle.release_wheel.proofs.releases.release_word.Given as goal

abbrev pub invariant-loop-left : goal.invariant-loop-left
invariant-loop-left l = record {
  going : IsReleasing (has_bit l.fn.pending) l.cycle (rows_left l.left) l.rows l.dues;
  entries : l.rows.entries.items ≡ l.fn.rows.entries.items;
  base : l.left.base ≡ l.fn.rest.base;
  behind : l.left.behind ≡ l.fn.rest.behind;
}

abbrev pub decreases-loop-left : goal.decreases-loop-left
decreases-loop-left l = l.left.word
