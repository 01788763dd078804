-- The periods so far and those of the rest are those of all operations.
use Rattle.std.proofs.Common.{◌≡◌, ◌++◌, drop}
use Rattle.elastic.specs.Combination.{periods_of}
use Rattle.elastic.proofs.choosing.periods_of.Given as goal

abbrev pub invariant-loop-op : goal.invariant-loop-op
invariant-loop-op l = l.periods.items ++ periods_of (drop l.op-index l.ops) ≡ periods_of l.ops
