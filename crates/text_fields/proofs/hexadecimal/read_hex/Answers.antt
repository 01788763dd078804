use Rattle.std.proofs.Common.{length, sym, ap, ◌∙◌}
use Rattle.std.specs.List.{list_all}
use Rattle.text_fields.specs.Hexadecimal.{is_hex_digit}
use Rattle.text_fields.proofs.HexDigits.{all-hex, length-hex, lower-digits}
use Rattle.text_fields.proofs.HexNumbers.{hex-read}
use Rattle.text_fields.proofs.hexadecimal.read_hex.Goals as goal
use Rattle.text_fields.proofs.hexadecimal.read_hex.Goals.{then-field-count-via-then-field-count, then-field-count-via-else-field-count+then-not-all_hex_digits}

pub returns-then-field-count-clause-none : goal.returns-then-field-count-clause-none
returns-then-field-count-clause-none c = λ n small is.
    let size = ap length is ∙ length-hex c.args.count n in
    let all = ap (list_all is_hex_digit) is ∙ all-hex c.args.count n in
    elim c.then-field-count.branch [
      | then-field-count-via-then-field-count w ↦ absurd (w.if-field-count.true size)
      | then-field-count-via-else-field-count+then-not-all_hex_digits w ↦ let other = w.if-not-all_hex_digits.ensures.value in absurd (cc)
    ]

pub value_of-requires-clause-hexadecimal : goal.value_of-requires-clause-hexadecimal
value_of-requires-clause-hexadecimal c = lower-digits c.args.field.now (sym c.if-not-all_hex_digits.ensures.value)

pub returns-clause-found : goal.returns-clause-found
returns-clause-found c =
    hex-read c.args.count c.args.field.now c.value_of.result c.if-field-count.false (sym c.if-not-all_hex_digits.ensures.value) c.value_of.ensures.value
