use Rattle.std.proofs.Common.{◌≡◌, ◌++◌, All, take}
use Rattle.std.specs.List.{filter_map}
use Rattle.change_protocol.specs.Applied.{placed_by}
use Rattle.change_protocol.specs.Operations.{HasTypes}
use Rattle.change_protocol.proofs.applying.place.Given as goal

abbrev pub invariant-loop-op : goal.invariant-loop-op
invariant-loop-op l = record {
  list : l.list.items ≡ l.initial.list.items ++ filter_map (placed_by l.table.placed.now l.start) (take l.op-index l.ops);
  types : All HasTypes (take l.op-index l.ops);
}
