use Rattle.std.proofs.Common.{arith, rules}
use Rattle.async_window.proofs.Telling.{least-told}
use Rattle.async_window.proofs.firsts.Firsts.none_fits.Goals as goal

pub returns-then-shortest-from : goal.returns-then-shortest-from
returns-then-shortest-from c = grind (arith, rules, least-told)

pub returns-in-None : goal.returns-in-None
returns-in-None c = grind (arith, rules, least-told)
