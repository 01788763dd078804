use Rattle.std.proofs.Common.{◌≡◌, ◌≤◌, ◌++◌, drop, vec_capacity, vec_len}
use Rattle.cycle_engine.proofs.nodes.copy.Given as goal

-- what is copied so far, with the entries that are left, is the list
abbrev pub invariant-loop-p : goal.invariant-loop-p
invariant-loop-p l = record {
  placed : l.placed.items ++ drop l.p-index l.list ≡ l.list;
  long : vec_len l.placed ≡ l.p-index;
  capacity : vec_capacity l.fn.placed ≤ vec_capacity l.placed;
}
