use Rattle.std.proofs.Common.{arith}
use Rattle.std.proofs.lemmas.List.{get_or_read}
use Rattle.async_window.proofs.Trees.{least-number, some-leaf}
use Rattle.async_window.proofs.tournament.Tournament.first.Goals as goal

pub index-requires : goal.index-requires
index-requires c = omega (arith, some-leaf c.self.inside.levels c.self.inside.nodes.items c.self.invariant, c.self.invariant.size)

pub returns-else-index-bound : goal.returns-else-index-bound
returns-else-index-bound c = grind (arith, get_or_read, some-leaf, least-number)
