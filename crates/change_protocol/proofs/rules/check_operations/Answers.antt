use Rattle.change_protocol.specs.Malformed.{bounds_of}
use Rattle.change_protocol.proofs.OpFaults.{first-at}
use Rattle.change_protocol.proofs.rules.check_operations.Goals as goal

pub returns-in-Err-clause-fault : goal.returns-in-Err-clause-fault
returns-in-Err-clause-fault c =
    first-at c.args.table.now.placed.now (bounds_of c.args.nodes c.args.slots) c.args.start c.args.ops.now c.loop-place.place _ c.in-Err.why
    c.loop-place-test.true c.loop-place.invariant c.in-Err.ensures.fault
