use Rattle.std.proofs.Common.{◌≡◌, ◌-◌, ◌+◌, ◌/◌, ◌%◌, ◌∷◌, drop, sym, ap, ◌∙◌, arith, rules}
use Rattle.std.proofs.lemmas.Fmt.{length-decimal-le}
use Rattle.text_fields.proofs.LowDigits.{hundred}
use Rattle.text_fields.proofs.row_parts.put_length.Goals as goal

pub returns-then-number-lt200-clause-row : goal.returns-then-number-lt200-clause-row
returns-then-number-lt200-clause-row g c =
    let xs = drop c.args.end c.args.row.now in
    let number = c.args.number in
    let low : c.from.result ≡ number - 100 = c.from.ensures in
    c.put_byte.ensures.row
    ∙ ap (λ l. 49 ∷ l) c.put_decimal_pair-start.ensures.row
    ∙ ap (λ n. 49 ∷ (48 + n / 10) ∷ (48 + n % 10) ∷ xs) low
    ∙ sym (hundred number xs c.if-number-ge100.true c.if-number-lt200.true)

pub write_digits-requires : goal.write_digits-requires
write_digits-requires g c =
    let few = length-decimal-le 10 c.from-2.result (omega arith) (omega (arith, c.ranges.number.fits, c.from-2.ensures)) (omega (arith, c.ranges.number.fits, c.from-2.ensures)) in
    (omega (arith, few), search rules)

pub returns-clause-few : goal.returns-clause-few
returns-clause-few g c =
    let few = length-decimal-le 10 c.from-2.result (omega arith) (omega (arith, c.ranges.number.fits, c.from-2.ensures)) (omega (arith, c.ranges.number.fits, c.from-2.ensures)) in
    omega (arith, few)
