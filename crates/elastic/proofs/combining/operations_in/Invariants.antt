-- The operations so far and those of the rest are those of all, and `behind` counts the combinations of the rest.
use Rattle.std.proofs.Common.{◌≡◌, ◌≤◌, ◌++◌, drop}
use Rattle.elastic.specs.Combination.{combinations, operations_in}
use Rattle.elastic.proofs.combining.operations_in.Given as goal

abbrev pub invariant-loop-op : goal.invariant-loop-op
invariant-loop-op l = record {
  behind : l.behind ≡ combinations (drop l.op-index l.ops);
  some : 1 ≤ l.behind;
  taken : l.taken.items ++ operations_in l.number (drop l.op-index l.ops) ≡ operations_in l.number l.ops;
}
