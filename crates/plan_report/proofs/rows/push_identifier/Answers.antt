use Rattle.std.proofs.Common.{◌≡◌, ℕ, ◌/◌, ◌%◌, [], ◌∷◌, ◌++◌, List, false, arith, append_assoc}
use Rattle.std.proofs.lemmas.Grind.{common_steps}
use Rattle.std.specs.String.{string_bytes}
use Rattle.std.specs.Fmt.{digit_glyph}
use Rattle.bus_trace.specs.Log.{hex_digits}
use Rattle.plan_report.proofs.rows.push_identifier.Goals as goal

three_digits : (n : ℕ) (before : List ℕ)
    → ((before ++ digit_glyph false (n / 16 / 16 % 16) ∷ []) ++ digit_glyph false (n / 16 % 16) ∷ []) ++ digit_glyph false (n % 16) ∷ [] ≡ before ++ hex_digits 3 n
unfolding hex_digits
three_digits n before = simp append_assoc

pub returns : goal.returns
returns c =
    let digits = three_digits c.args.id (string_bytes c.args.text.now) in
    grind (arith, common_steps, digits)
