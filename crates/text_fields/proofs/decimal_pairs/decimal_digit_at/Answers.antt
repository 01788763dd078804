use Rattle.text_fields.proofs.LowDigits.{digit_is}
use Rattle.text_fields.proofs.decimal_pairs.decimal_digit_at.Goals as goal

pub returns : goal.returns
returns c = record { digit = digit_is c.args.place c.requires.within }
