use Rattle.std.proofs.Common.{◌++◌, List, ℕ, ap, ◌∙◌, drop}
use Rattle.std.specs.Int.{bytes_high_first}
use Rattle.std.specs.List.{flat_map}
use Rattle.text_fields.specs.Hexadecimal.{hex_digits}
use Rattle.text_fields.proofs.data_digits.DataDigits.put.Goals as goal

pub returns-clause-row : goal.returns-clause-row
returns-clause-row g c =
    let xs = drop c.args.end c.args.row.now in
    c.put_sixteen.ensures.row
    ∙ ap (λ (digits : List ℕ). digits ++ xs) c.self.invariant
    ∙ ap (λ (number : ℕ). flat_map (hex_digits 2) (bytes_high_first 8 number) ++ xs) c.self.view_is
