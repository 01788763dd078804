-- What is multiplied so far and the combinations of the rest make all combinations.
use Rattle.std.proofs.Common.{◌≡◌, ◌*◌, drop}
use Rattle.elastic.specs.Combination.{combinations}
use Rattle.elastic.proofs.combining.combinations.Given as goal

abbrev pub invariant-loop-op : goal.invariant-loop-op
invariant-loop-op l = l.count * combinations (drop l.op-index l.ops) ≡ combinations l.ops
