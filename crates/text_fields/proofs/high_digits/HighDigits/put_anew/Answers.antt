use Rattle.std.proofs.Common.{◌/◌, arith}
use Rattle.std.proofs.lemmas.Fmt.{length-decimal-le}
use Rattle.text_fields.proofs.high_digits.HighDigits.put_anew.Goals as goal

pub write_digits-self-inside-requires : goal.write_digits-self-inside-requires
write_digits-self-inside-requires g c =
    let few = length-decimal-le 8 (c.args.number / 10000) (omega arith) (omega arith) (omega arith) in
    (few, omega arith)
