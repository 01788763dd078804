use Rattle.std.proofs.Common.{arith}
use Rattle.std.proofs.lemmas.List.Sorted.{length_permutation}
use Rattle.release_wheel.proofs.filling.fill.Goals as goal

pub fill_rows-wheel-requires-clause-room : goal.fill_rows-wheel-requires-clause-room
fill_rows-wheel-requires-clause-room c = grind (arith, length_permutation)

pub returns-then-not-wheel-clause-kept : goal.returns-then-not-wheel-clause-kept
returns-then-not-wheel-clause-kept c = grind arith

pub returns-clause-kept : goal.returns-clause-kept
returns-clause-kept c = grind arith

pub returns-clause-slots : goal.returns-clause-slots
returns-clause-slots c = c.fill_rows-wheel.ensures.filled.slots
