use Rattle.std.proofs.Common.{◌+◌, ◌/◌, ◌∷◌, drop, ap, ◌∙◌}
use Rattle.text_fields.proofs.RowDigits.{identifier-put}
use Rattle.text_fields.proofs.row_parts.put_identifier.Goals as goal

pub returns-clause-row : goal.returns-clause-row
returns-clause-row g c =
    c.put_byte.ensures.row
    ∙ ap (λ xs. (48 + c.args.id / 256) ∷ xs) c.put_hex_pair-start.ensures.row
    ∙ identifier-put c.args.id (drop c.args.end c.args.row.now) c.requires.range
