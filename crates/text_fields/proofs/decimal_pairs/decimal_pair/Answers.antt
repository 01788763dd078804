use Rattle.text_fields.proofs.LowDigits.{ones_is, tens_is}
use Rattle.text_fields.proofs.decimal_pairs.decimal_pair.Goals as goal

pub returns : goal.returns
returns c = record { tens = cc (tens_is c.args.number); ones = cc (ones_is c.args.number) }
