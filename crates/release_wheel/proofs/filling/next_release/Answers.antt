use Rattle.std.proofs.Common.{arith}
use Rattle.release_wheel.proofs.RowDues.{after-over}
use Rattle.release_wheel.proofs.filling.next_release.Goals as goal

pub returns-else-over-eq0-clause-next : goal.returns-else-over-eq0-clause-next
returns-else-over-eq0-clause-next c = grind (arith, after-over)
