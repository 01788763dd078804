use Rattle.std.proofs.Common.{sym}
use Rattle.text_fields.proofs.DecimalDigits.{found-decimal, none-decimal, none-leading}
use Rattle.text_fields.proofs.decimals.read_decimal.Goals as goal

pub returns-then-has_leading_zero-clause-none : goal.returns-then-has_leading_zero-clause-none
returns-then-has_leading_zero-clause-none c = none-leading c.args.field.now c.if-has_leading_zero.ensures.value

pub returns-clause-found : goal.returns-clause-found
returns-clause-found c =
    found-decimal c.args.field.now (sym c.if-has_leading_zero.ensures.value) c.read_number.result c.read_number.ensures.value

pub returns-clause-none : goal.returns-clause-none
returns-clause-none c =
    none-decimal c.args.field.now (sym c.if-has_leading_zero.ensures.value) c.read_number.result c.read_number.ensures.value
