use Rattle.std.proofs.Common.{◌≡◌, ◌++◌, drop, vec_capacity}
use Rattle.requirement_table.specs.Table.{near_of}
use Rattle.requirement_table.proofs.lists.put_near.Given as goal

-- those so far and those of the rest are all, and the room stays
abbrev pub invariant-loop-p : goal.invariant-loop-p
invariant-loop-p l = record {
  list : l.list.items ++ near_of l.since l.until (drop l.p-index l.placed) ≡ near_of l.since l.until l.placed;
  room : vec_capacity l.list ≡ vec_capacity l.fn.list;
}
