use Rattle.bit_sets.proofs.Bits.{has_bit-or}
use Rattle.bit_sets.proofs.rows.both.Goals as goal

pub returns : goal.returns
returns c = record { rows = λ i. has_bit-or c.args.one c.args.other i }
