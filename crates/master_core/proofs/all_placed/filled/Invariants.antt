use Rattle.std.proofs.Common.{◌≡◌, ◌≤◌, ◌++◌, drop, length, vec_capacity, vec_len}
use Rattle.master_core.proofs.all_placed.filled.Given as goal

-- what is filled in so far, with the entries that are left, is the list
abbrev pub invariant-loop-p : goal.invariant-loop-p
invariant-loop-p l = record {
  list : l.list.items ++ drop l.p-index l.placed ≡ l.placed;
  long : vec_len l.list ≡ l.p-index;
  capacity : length l.placed ≤ vec_capacity l.list;
}
