use Rattle.std.proofs.Common.{◌≡◌, ◌∙◌, true, refl, sym}
use Rattle.std.specs.Char.{is_ascii_hexdigit}
use Rattle.std.specs.List.{list_all}
use Rattle.text_fields.specs.Hexadecimal.{is_hex_digit}
use Rattle.text_fields.proofs.HexDigits.{lower-digits}
use Rattle.text_fields.proofs.data_bytes.read_data.Goals as goal

pub returns-clause-value : goal.returns-clause-value
returns-clause-value c =
    let lower : list_all is_hex_digit c.args.field.now ≡ true = sym c.if-not-all_hex_digits.ensures.value in
    let either : list_all is_ascii_hexdigit c.args.field.now ≡ true = lower-digits c.args.field.now lower in
    c.read_bytes.ensures.value ∙ rw (lower, either) refl
