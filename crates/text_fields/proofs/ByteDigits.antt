-- The bytes that pairs of hexadecimal digits write, as the reader finds them and as the writer writes them.
use Rattle.std.proofs.Common.{◌≡◌, ℕ, ◌+◌, ◌*◌, ◌/◌, ◌%◌, ◌<◌, ◌≤◌, ◌&&◌, true, false, ◌==◌, nat_le, List, [], ◌∷◌, ◌++◌, All, length, Some, refl, sym, ap, ◌∙◌, subst, arith}
use Rattle.std.proofs.lemmas.Bool.{and_parts, and_from, eqb-true, eq-eqb}
use Rattle.std.proofs.lemmas.Bool.Decides.{nat_tests}
use Rattle.std.proofs.lemmas.List.{length-append}
use Rattle.std.proofs.lemmas.List.Elements.{All-cons, All-head, All-tail}
use Rattle.std.proofs.lemmas.List.Folds.{list_all-append}
use Rattle.std.proofs.lemmas.Option.{same_Some}
use Rattle.std.specs.Char.{digit_value}
use Rattle.std.specs.Fmt.{digit_glyph}
use Rattle.std.specs.List.{flat_map, list_all}
use Rattle.text_fields.specs.Hexadecimal.{hex_digits, is_hex_digit}
use Rattle.text_fields.specs.ByteText.{bytes_written, data_of}
use Rattle.text_fields.proofs.HexDigits.{all-hex, digit-is, glyph-is, hex-two, length-hex}
use Rattle.text_fields.proofs.Ranges.{if-some}

abbrev AllBytes : List ℕ → Type 0
AllBytes bytes = All (λ byte. byte < 256) bytes

pub length-data : (bytes : List ℕ) → length (flat_map (hex_digits 2) bytes) ≡ 2 * length bytes
length-data [] = refl
length-data (b ∷ bs) =
    let rest = length-data bs in
    let first = length-hex 2 b in
    let whole = length-append (hex_digits 2 b) (flat_map (hex_digits 2) bs) in
    omega arith

pub all-data : (bytes : List ℕ) → list_all is_hex_digit (flat_map (hex_digits 2) bytes) ≡ true
all-data [] = refl
all-data (b ∷ bs) =
    list_all-append is_hex_digit (hex_digits 2 b) (flat_map (hex_digits 2) bs)
    ∙ and_from (list_all is_hex_digit (hex_digits 2 b)) (list_all is_hex_digit (flat_map (hex_digits 2) bs)) (all-hex 2 b) (all-data bs)

written-data : (bytes : List ℕ) → AllBytes bytes → bytes_written (flat_map (hex_digits 2) bytes) ≡ bytes
written-data [] small = refl
written-data (b ∷ bs) small =
    let here = All-head (λ byte. byte < 256) b bs small in
    let high = (glyph-is (b / 16) (omega arith)).1 in
    let low = (glyph-is (b % 16) (omega arith)).1 in
    let value : 16 * digit_value (digit_glyph false (b / 16)) + digit_value (digit_glyph false (b % 16)) ≡ b = omega arith in
    ap (λ l. bytes_written (l ++ flat_map (hex_digits 2) bs)) (hex-two b here)
    ∙ ap (λ v. v ∷ bytes_written (flat_map (hex_digits 2) bs)) value
    ∙ ap (λ l. b ∷ l) (written-data bs (All-tail (λ byte. byte < 256) b bs small))

-- the reader finds the bytes that were written
pub data_of-data : (bytes : List ℕ) → AllBytes bytes → length bytes ≤ 8 → data_of (flat_map (hex_digits 2) bytes) ≡ Some bytes
data_of-data bytes small few =
    let size = length-data bytes in
    let most : nat_le (length (flat_map (hex_digits 2) bytes)) 16 ≡ true = grind (arith, nat_tests) in
    let half : length (flat_map (hex_digits 2) bytes) % 2 ≡ 0 = omega arith in
    rw (most, eq-eqb _ _ half, all-data bytes) (ap (λ l. Some l) (written-data bytes small))

-- the bytes that digits write
record AreWritten (field : List ℕ) : Type 0 where
  pub small : AllBytes (bytes_written field)
  pub size : 2 * length (bytes_written field) ≡ length field
  pub digits : flat_map (hex_digits 2) (bytes_written field) ≡ field

are-written : (field : List ℕ) → length field % 2 ≡ 0 → list_all is_hex_digit field ≡ true → AreWritten field
are-written [] even all = record { small = λ i d within. absurd (omega arith); size = refl; digits = refl }
are-written (h ∷ []) even all = absurd (omega arith)
are-written (h ∷ l ∷ rest) even all =
    let (high, more) = and_parts (is_hex_digit h) (list_all is_hex_digit (l ∷ rest)) all in
    let (low, others) = and_parts (is_hex_digit l) (list_all is_hex_digit rest) more in
    let first = digit-is h high in
    let second = digit-is l low in
    let a = digit_value h in
    let b = digit_value l in
    let below : 16 * a + b < 256 = omega (arith, first.1, second.1) in
    let front : (16 * a + b) / 16 ≡ a = omega (arith, first.1, second.1) in
    let back : (16 * a + b) % 16 ≡ b = omega (arith, first.1, second.1) in
    let later = are-written rest (omega arith) others in
    let size = later.size in
    record {
      small = All-cons (λ byte. byte < 256) (16 * a + b) (bytes_written rest) below later.small;
      size = omega arith;
      digits = ap (λ l. l ++ flat_map (hex_digits 2) (bytes_written rest)) (hex-two (16 * a + b) below
          ∙ ap (λ v. digit_glyph false v ∷ digit_glyph false ((16 * a + b) % 16) ∷ []) front
          ∙ ap (λ v. digit_glyph false a ∷ digit_glyph false v ∷ []) back
          ∙ ap (λ g. g ∷ digit_glyph false b ∷ []) first.0
          ∙ ap (λ g. h ∷ g ∷ []) second.0)
          ∙ ap (λ t. h ∷ l ∷ t) later.digits;
    }

pub data-read : (field bytes : List ℕ) → data_of field ≡ Some bytes
    → (field ≡ flat_map (hex_digits 2) bytes) × (length bytes ≤ 8) × AllBytes bytes
data-read field bytes read =
    let parts = if-some (nat_le (length field) 16 && (length field % 2 == 0) && list_all is_hex_digit field) (Some (bytes_written field)) bytes read in
    let (front, all) = and_parts (nat_le (length field) 16 && (length field % 2 == 0)) (list_all is_hex_digit field) parts.0 in
    let (few, even) = and_parts (nat_le (length field) 16) (length field % 2 == 0) front in
    let is : bytes_written field ≡ bytes = same_Some _ _ parts.1 in
    let written = are-written field (eqb-true _ _ even) all in
    let most : length field ≤ 16 = grind (arith, nat_tests) in
    let size = written.size in (
      sym written.digits ∙ ap (flat_map (hex_digits 2)) is,
      subst (λ (l : List ℕ). length l ≤ 8) is (omega arith),
      subst AllBytes is written.small,
    )
