use Rattle.text_fields.proofs.SixteenDigits.{all-zeros}
use Rattle.text_fields.proofs.data_digits.DataDigits.zeros.Goals as goal

pub invariant_of-result : goal.invariant_of-result
invariant_of-result c = all-zeros
