use Rattle.std.proofs.Common.{◌≡◌, ◌≤◌, take, vec_len, vec_capacity}
use Rattle.requirement_table.specs.Table.{not_over}
use Rattle.node_model.proofs.entries.keep_not_over.Given as goal

abbrev pub invariant-loop-p : goal.invariant-loop-p
invariant-loop-p l = record {
  left : l.left.items ≡ not_over l.cycle (take l.p-index l.entries);
  few : vec_len l.left ≤ l.p-index;
  capacity : vec_capacity l.fn.left ≤ vec_capacity l.left;
}
