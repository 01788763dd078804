use Rattle.std.proofs.Common.{arith}
use Rattle.std.proofs.lemmas.Bool.{leb-false, leb-true}
use Rattle.async_window.proofs.Telling.{least-told, some-told}
use Rattle.async_window.proofs.firsts.Firsts.has_arrived.Goals as goal

pub returns : goal.returns
returns c = grind (arith, least-told, leb-false, some-told, leb-true)
