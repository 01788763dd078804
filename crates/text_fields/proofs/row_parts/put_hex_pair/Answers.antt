use Rattle.std.proofs.Common.{◌++◌, ◌∷◌, drop, ap, ◌∙◌}
use Rattle.text_fields.proofs.row_parts.put_hex_pair.Goals as goal

pub returns-clause-row : goal.returns-clause-row
returns-clause-row g c =
    c.put_byte.ensures.row
    ∙ ap (λ xs. c.hex_pair-high.result.0 ∷ xs) c.put_byte-start.ensures.row
    ∙ ap (λ digits. digits ++ drop c.args.end c.args.row.now) c.hex_pair-high.ensures.digits
