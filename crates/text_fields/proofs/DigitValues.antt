-- The table of the values of hexadecimal digits.
use Rattle.std.proofs.Common.{◌≡◌, ℕ, ◌<◌, ◌≤◌, Bool, true, false, get_or, refl, sym, ap, ◌∙◌, subst, arith}
use Rattle.std.specs.Char.{digit_value, is_ascii_hexdigit}
use Rattle.stuff_bound.proofs.Shared.{are_entries, entry-is}
use Rattle.text_fields.specs.DigitTable.{entry, entry_of}
use Rattle.text_fields.specs.Hexadecimal.{is_hex_digit}
use Rattle.text_fields.specs.declared.digits.TheConstants.{DIGIT_VALUES}
use Rattle.text_fields.proofs.HexDigits.{digit-small, lower-digit}

all_values : are_entries entry_of 0 DIGIT_VALUES ≡ true
all_values = refl

most-entry : (lower either : Bool) (value : ℕ) → (lower ≡ true → value < 16) → (either ≡ true → value < 16)
    → entry lower either value ≤ 64
most-entry true either value small few = let below = small refl in omega arith
most-entry false true value small few = let below = few refl in omega arith
most-entry false false value small few = omega arith

module _ (byte : ℕ) (within : byte < 256) (place : ℕ) (at : place ≡ byte) where
  pub value-is : get_or DIGIT_VALUES place 0 ≡ entry_of byte
  value-is = ap (λ i. get_or DIGIT_VALUES i 0) at ∙ entry-is entry_of byte DIGIT_VALUES all_values within

  pub value-most : get_or DIGIT_VALUES place 0 ≤ 64
  value-most =
      subst (λ v. v ≤ 64) (sym value-is)
      (most-entry (is_hex_digit byte) (is_ascii_hexdigit byte) (digit_value byte)
      (λ lower. digit-small byte (lower-digit byte lower)) (digit-small byte))
