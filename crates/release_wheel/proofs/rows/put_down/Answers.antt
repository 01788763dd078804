use Rattle.std.proofs.Common.{arith, rules}
use Rattle.release_wheel.proofs.rows.put_down.Goals as goal

pub returns : goal.returns
returns c = grind (arith, rules)
