use Rattle.std.proofs.Common.{rules, arith}
use Rattle.release_wheel.proofs.RowSums.{costs-small}
use Rattle.release_wheel.proofs.releases.release_row.Goals as goal

pub take_in-requires-clause-cost : goal.take_in-requires-clause-cost
take_in-requires-clause-cost c = grind (arith, costs-small)

pub returns : goal.returns
returns c = grind (arith, rules)
