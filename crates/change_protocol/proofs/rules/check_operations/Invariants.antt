use Rattle.std.proofs.Common.{◌≡◌, [], take, drop}
use Rattle.change_protocol.specs.Malformed.{bounds_of, op_faults}
use Rattle.change_protocol.proofs.rules.check_operations.Given as goal

abbrev pub invariant-loop-place : goal.invariant-loop-place
invariant-loop-place l = op_faults l.table.placed.now (bounds_of l.nodes l.slots) l.start [] l.ops
    ≡ op_faults l.table.placed.now (bounds_of l.nodes l.slots) l.start (take l.place l.ops) (drop l.place l.ops)
