use Rattle.bit_sets.proofs.Bits.{has_bit-and}
use Rattle.bit_sets.proofs.rows.common.Goals as goal

pub returns : goal.returns
returns c = record { rows = λ i. has_bit-and c.args.one c.args.other i }
