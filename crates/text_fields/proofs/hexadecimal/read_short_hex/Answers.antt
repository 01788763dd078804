use Rattle.std.proofs.Common.{ap, sym, ◌∙◌, length}
use Rattle.std.specs.List.{list_all}
use Rattle.text_fields.specs.Hexadecimal.{is_hex_digit}
use Rattle.text_fields.proofs.HexDigits.{all-hex, length-hex}
use Rattle.text_fields.proofs.HexNumbers.{hex-read, word-none, word-read}
use Rattle.text_fields.proofs.hexadecimal.read_short_hex.Goals as goal

pub returns-then-field-count-clause-none : goal.returns-then-field-count-clause-none
returns-then-field-count-clause-none c = λ n small is.
    absurd (c.if-field-count.true (ap length is ∙ length-hex c.args.count n))

pub returns-in_err-number-clause-none : goal.returns-in_err-number-clause-none
returns-in_err-number-clause-none c =
    rw c.from_residual.ensures
    (λ n small is. word-none c.args.field.now (ap (list_all is_hex_digit) is ∙ all-hex c.args.count n) c.in_err-number.ensures.value)

pub returns-clause-found : goal.returns-clause-found
returns-clause-found c =
    let read = word-read c.args.field.now c.in_ok-number.number (sym c.in_ok-number.ensures.value) in
    hex-read c.args.count c.args.field.now c.from.result c.if-field-count.false read.0 (c.from.ensures ∙ sym read.1)
