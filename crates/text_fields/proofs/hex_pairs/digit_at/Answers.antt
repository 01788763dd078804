use Rattle.text_fields.proofs.RowDigits.{digit_is}
use Rattle.text_fields.proofs.hex_pairs.digit_at.Goals as goal

pub returns : goal.returns
returns c = record { digit = digit_is c.args.place c.requires.within }
