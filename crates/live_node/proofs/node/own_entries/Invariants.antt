use Rattle.std.proofs.Common.{◌≡◌, ◌≤◌, length, take}
use Rattle.node_model.specs.Node.{entries_of}
use Rattle.live_node.proofs.node.own_entries.Given as goal

abbrev pub invariant-loop-p : goal.invariant-loop-p
invariant-loop-p l = record {
  count : l.count ≡ length (entries_of l.number (take l.p-index l.placed));
  few : l.count ≤ l.p-index;
}
