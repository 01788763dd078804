use Rattle.std.proofs.Common.{arith}
use Rattle.std.proofs.lemmas.List.{with_items_is}
use Rattle.async_window.proofs.Trees.{numbers-at, numbers-length}
use Rattle.async_window.proofs.tournament.Tournament.set.Goals as goal

pub put-requires-clause-place : goal.put-requires-clause-place
put-requires-clause-place c = grind (arith, numbers-length)

pub returns : goal.returns
returns c = grind (arith, with_items_is, numbers-length, numbers-at)
