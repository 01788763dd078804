use Rattle.std.proofs.Common.{rules}
use Rattle.saved_state.specs.Numbers.{placed_in}
use Rattle.saved_state.proofs.numbers.placed_in.Goals as goal

pub returns-then-numbers-eq1 : goal.returns-then-numbers-eq1
unfolding placed_in
returns-then-numbers-eq1 c = Prim.search (rules)

pub returns-else-numbers-eq1 : goal.returns-else-numbers-eq1
unfolding placed_in
returns-else-numbers-eq1 c = Prim.search (rules)
