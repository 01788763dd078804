use Rattle.std.proofs.Common.{◌++◌, drop, ap, ◌∙◌}
use Rattle.text_fields.specs.Hexadecimal.{hex_digits}
use Rattle.text_fields.specs.MaskText.{mask_digits}
use Rattle.text_fields.proofs.masks.put_mask.Goals as goal

pub returns-clause-row : goal.returns-clause-row
unfolding mask_digits
returns-clause-row g c =
    c.put_hex.ensures.row ∙ ap (λ count. hex_digits count c.args.mask ++ drop c.args.end c.args.row.now) c.mask_width.ensures.value
