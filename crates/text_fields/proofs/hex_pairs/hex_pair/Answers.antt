use Rattle.text_fields.proofs.RowDigits.{pair_is}
use Rattle.text_fields.proofs.hex_pairs.hex_pair.Goals as goal

pub returns : goal.returns
returns c = record { digits = cc (pair_is c.args.byte c.ranges.byte.fits) }
