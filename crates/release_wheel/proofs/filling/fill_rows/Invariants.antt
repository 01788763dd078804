use Rattle.release_wheel.specs.Wheel.{IsFilledTo}
use Rattle.release_wheel.proofs.filling.fill_rows.Given as goal

abbrev pub invariant-loop-row : goal.invariant-loop-row
invariant-loop-row l = IsFilledTo l.entries l.row l.state.cycle l.state.pending l.rows l.dues
