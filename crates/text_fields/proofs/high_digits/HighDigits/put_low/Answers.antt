use Rattle.std.proofs.Common.{◌+◌, ◌/◌, ◌%◌, ◌∷◌, ◌++◌, drop, sym, ap, ◌∙◌, arith}
use Rattle.std.specs.Fmt.{decimal}
use Rattle.text_fields.proofs.LowDigits.{kept-put, low_four}
use Rattle.text_fields.proofs.high_digits.HighDigits.put_low.Goals as goal

pub returns-clause-row : goal.returns-clause-row
returns-clause-row g c =
    let s = c.self.inside in
    let i = c.self.invariant in
    let low = c.args.low in
    let xs = drop c.args.end c.args.row.now in
    kept-put s.digits c.put_eight.new.row (drop c.put_decimal_pair-start-2.result c.put_decimal_pair-start-2.new.row) c.put_eight.result s.first (omega (arith, i.room, i.within)) c.put_eight.ensures.row
    ∙ ap (λ l. drop s.first s.digits ++ l) (c.put_decimal_pair-start-2.ensures.row ∙ ap (λ l. (48 + low / 100 / 10) ∷ (48 + low / 100 % 10) ∷ l) c.put_decimal_pair-start.ensures.row)
    ∙ ap (λ digits. digits ++ (48 + low / 100 / 10) ∷ (48 + low / 100 % 10) ∷ (48 + low % 100 / 10) ∷ (48 + low % 100 % 10) ∷ xs) i.written
    ∙ sym (low_four s.base low xs i.fours i.some i.small c.requires.low)
    ∙ ap (λ base. decimal (base + low) ++ xs) c.self.view_is
