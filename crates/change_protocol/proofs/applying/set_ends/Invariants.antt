use Rattle.std.proofs.Common.{◌≡◌, take, map}
use Rattle.change_protocol.specs.Applied.{ended}
use Rattle.change_protocol.proofs.applying.set_ends.Given as goal

abbrev pub invariant-loop-op : goal.invariant-loop-op
invariant-loop-op l = l.list ≡ map (ended l.start (take l.op-index l.ops)) l.initial.list
