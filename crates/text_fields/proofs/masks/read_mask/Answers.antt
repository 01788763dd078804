use Rattle.std.proofs.Common.{◌≡◌, None, Some, length, sym, ◌∙◌, arith}
use Rattle.text_fields.proofs.MaskDigits.{all-none, all-small, all-some, found-of, mask_of-few, none-of}
use Rattle.text_fields.proofs.masks.read_mask.Goals as goal

pub returns-then-field-from-clause-value : goal.returns-then-field-from-clause-value
returns-then-field-from-clause-value c =
    let size : length c.args.field.now ≡ c.from-then-field-from.result = omega arith in
    c.read_short_hex.ensures.value ∙ sym (mask_of-few c.args.field.now c.from-then-field-from.result c.from-then-field-from.ensures size)

pub returns-then-field-from-clause-found : goal.returns-then-field-from-clause-found
returns-then-field-from-clause-found c = found-of c.args.field.now c.read_short_hex.result (returns-then-field-from-clause-value c)

pub returns-then-field-from-clause-none : goal.returns-then-field-from-clause-none
returns-then-field-from-clause-none c = none-of c.args.field.now c.read_short_hex.result (returns-then-field-from-clause-value c)

pub returns-in_err-mask-clause-value : goal.returns-in_err-mask-clause-value
returns-in_err-mask-clause-value c =
    let other : length c.args.field.now ≡ 10 → ⊥ = λ size. omega arith in
    c.from_residual.ensures ∙ all-none c.args.field.now c.from-2.result c.from-2.ensures other c.in_err-mask.ensures.value

pub returns-in_err-mask-clause-none : goal.returns-in_err-mask-clause-none
returns-in_err-mask-clause-none c = none-of c.args.field.now c.from_residual.result (returns-in_err-mask-clause-value c)

pub returns-then-mask-ge-ABOVE_FEW-clause-value : goal.returns-then-mask-ge-ABOVE_FEW-clause-value
returns-then-mask-ge-ABOVE_FEW-clause-value c =
    let other : length c.args.field.now ≡ 10 → ⊥ = λ size. omega arith in
    all-some c.args.field.now c.from-2.result c.from-2.ensures other c.in_ok-mask.mask c.in_ok-mask.ensures.value c.in_ok-mask.ensures.small (omega arith)

pub returns-then-mask-ge-ABOVE_FEW-clause-found : goal.returns-then-mask-ge-ABOVE_FEW-clause-found
returns-then-mask-ge-ABOVE_FEW-clause-found c = found-of c.args.field.now (Some c.in_ok-mask.mask) (returns-then-mask-ge-ABOVE_FEW-clause-value c)

pub returns-else-mask-ge-ABOVE_FEW-clause-value : goal.returns-else-mask-ge-ABOVE_FEW-clause-value
returns-else-mask-ge-ABOVE_FEW-clause-value c =
    let other : length c.args.field.now ≡ 10 → ⊥ = λ size. omega arith in
    all-small c.args.field.now c.from-2.result c.from-2.ensures other c.in_ok-mask.mask c.in_ok-mask.ensures.value (omega arith)

pub returns-else-mask-ge-ABOVE_FEW-clause-none : goal.returns-else-mask-ge-ABOVE_FEW-clause-none
returns-else-mask-ge-ABOVE_FEW-clause-none c = none-of c.args.field.now None (returns-else-mask-ge-ABOVE_FEW-clause-value c)
