use Rattle.std.proofs.Common.{arith}
use Rattle.bit_sets.proofs.Bits.{one-high}
use Rattle.bit_sets.proofs.slots.one_slot.Goals as goal

pub returns-else-slot-lt-FIRST_HIGH : goal.returns-else-slot-lt-FIRST_HIGH
returns-else-slot-lt-FIRST_HIGH c =
    record { number = rw c.from-else-slot-lt-FIRST_HIGH.ensures (one-high c.args.slot c.if-slot-lt-FIRST_HIGH.false (omega arith)) }
