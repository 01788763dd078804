use Rattle.std.proofs.Common.{arith, rules}
use Rattle.std.proofs.lemmas.Fmt.{length-decimal-le}
use Rattle.text_fields.proofs.row_parts.put_decimal.Goals as goal

pub write_digits-requires : goal.write_digits-requires
write_digits-requires g c =
    let few = length-decimal-le 20 c.args.number (omega arith) (omega arith) c.ranges.number.fits in
    (omega (arith, few), search rules)

pub returns-clause-few : goal.returns-clause-few
returns-clause-few g c =
    let few = length-decimal-le 20 c.args.number (omega arith) (omega arith) c.ranges.number.fits in
    omega (arith, few)
