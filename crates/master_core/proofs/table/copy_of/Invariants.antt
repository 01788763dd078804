use Rattle.std.proofs.Common.{◌≡◌, All, take}
use Rattle.change_protocol.specs.Operations.{HasTypes}
use Rattle.master_core.proofs.table.copy_of.Given as goal

abbrev pub invariant-loop-op : goal.invariant-loop-op
invariant-loop-op l = record {
  copied : l.list.items ≡ take l.op-index l.ops;
  types : All HasTypes (take l.op-index l.ops);
}
