-- A byte that is no digit, or one too many, leaves no number; and at the end the digits have written it.
use Rattle.std.proofs.Common.{◌≡◌, ◌∙◌, None, Some, sym}
use Rattle.text_fields.proofs.CsvFields.{decimal_from, field_number, no_more_digits, stops_at_front}
use Rattle.text_fields.proofs.decimals.read_many.Goals as goal

pub returns-in_err-number : goal.returns-in_err-number
returns-in_err-number c =
    let stopped : decimal_from c.loop-left.number c.loop-left.left.now ≡ None = stops_at_front c.loop-left.number c.loop-left.left.now c.in-len1-up.len_at_least c.in_err-number.ensures.value in
    record { value = c.from_residual.ensures ∙ sym (field_number c.args.field.now c.requires.some ∙ sym c.loop-left.invariant.1 ∙ stopped) }

pub returns : goal.returns
returns c =
    let read : decimal_from c.loop-left.number c.loop-left.left.now ≡ Some c.loop-left.number = no_more_digits c.loop-left.number c.loop-left.left.now c.in_default.len_below c.loop-left.invariant.0 in
    record { value = sym (field_number c.args.field.now c.requires.some ∙ sym c.loop-left.invariant.1 ∙ read) }
