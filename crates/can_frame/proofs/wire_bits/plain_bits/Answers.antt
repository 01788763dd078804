-- The CRC sequence stands behind what it covers.
use Rattle.can_frame.specs.Wire.{plain, with_sequence}
use Rattle.can_frame.proofs.wire_bits.plain_bits.Goals as goal

pub returns-clause-value : goal.returns-clause-value
unfolding plain with_sequence
returns-clause-value c = cc
