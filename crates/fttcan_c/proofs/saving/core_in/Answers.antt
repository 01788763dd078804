-- The core has these bytes, and no other one has.
use Rattle.std.proofs.Common.{refl}
use Rattle.fttcan_c.proofs.Saved.{core_of_bytes}
use Rattle.fttcan_c.proofs.saving.core_in.Goals as goal

pub returns-in-Some-clause-core : goal.returns-in-Some-clause-core
returns-in-Some-clause-core c =
    let found = rw c.in-Some.is at c.in_ok-core.ensures.found in
    let complete = rw c.in-Some.is at c.in_ok-core.ensures.saved in
    core_of_bytes
    c.args.bytes.now
    c.in-Ok.saved
    c.in-Some.core
    c.in-Ok.ensures.state
    c.in-Ok.ensures.only
    c.if-not-saved.false
    (c.if-not-are_slots.ensures.slots.0 refl)
    found
    complete
