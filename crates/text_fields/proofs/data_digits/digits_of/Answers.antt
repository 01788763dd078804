use Rattle.std.proofs.Common.{refl, arith}
use Rattle.text_fields.proofs.SixteenDigits.{all-put}
use Rattle.text_fields.proofs.data_digits.digits_of.Goals as goal

pub returns : goal.returns
returns c = record {
  digits = all-put c.args.bytes _ _ _ c.put_data_bytes.ensures.row refl (omega arith) (omega arith);
}
