use Rattle.std.proofs.Common.{arith}
use Rattle.release_wheel.proofs.RowSums.{costs-small}
use Rattle.release_wheel.proofs.wheel.take.Goals as goal

pub overflow_add-wheel : goal.overflow_add-wheel
overflow_add-wheel c = grind (arith, costs-small)
