use Rattle.std.proofs.Common.{◌≡◌, ◌++◌, drop}
use Rattle.requirement_table.specs.Table.{not_over}
use Rattle.requirement_table.proofs.lists.not_over.Given as goal

abbrev pub invariant-loop-p : goal.invariant-loop-p
invariant-loop-p l = l.left.items ++ not_over l.cycle (drop l.p-index l.placed) ≡ not_over l.cycle l.placed
