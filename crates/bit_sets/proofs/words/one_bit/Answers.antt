use Rattle.std.proofs.Common.{arith}
use Rattle.bit_sets.proofs.Bits.{one-high}
use Rattle.bit_sets.proofs.words.one_bit.Goals as goal

pub returns-else-bit-lt-WORD_BITS : goal.returns-else-bit-lt-WORD_BITS
returns-else-bit-lt-WORD_BITS c =
    record { number = rw c.from-else-bit-lt-WORD_BITS.ensures (one-high c.args.bit c.if-bit-lt-WORD_BITS.false (omega arith)) }
