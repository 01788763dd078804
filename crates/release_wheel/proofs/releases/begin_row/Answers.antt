use Rattle.std.proofs.Common.{arith}
use Rattle.release_wheel.proofs.RowSums.{costs-small}
use Rattle.release_wheel.proofs.releases.begin_row.Goals as goal

pub add-dues-requires-clause-cost : goal.add-dues-requires-clause-cost
add-dues-requires-clause-cost c = grind (arith, costs-small)

pub returns : goal.returns
returns c = grind arith
