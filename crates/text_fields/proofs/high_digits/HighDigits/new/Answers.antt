use Rattle.std.proofs.Common.{refl, sym, arith}
use Rattle.std.proofs.lemmas.Fmt.{decimal_digit}
use Rattle.text_fields.proofs.high_digits.HighDigits.new.Goals as goal

pub invariant_of-result : goal.invariant_of-result
invariant_of-result c = record {
  room = refl;
  within = omega arith;
  fours = refl;
  some = omega arith;
  small = omega arith;
  written = sym (decimal_digit 1 (omega arith));
}
