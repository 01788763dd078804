-- The number of combinations of the operations so far.
use Rattle.std.proofs.Common.{◌≡◌, ◌≤◌, take}
use Rattle.elastic.specs.Combination.{combinations}
use Rattle.elastic.proofs.choosing.counted.Given as goal

abbrev pub invariant-loop-op : goal.invariant-loop-op
invariant-loop-op l = record {
  counted : l.count ≡ combinations (take l.op-index l.ops);
  few : l.count ≤ 4096;
}
