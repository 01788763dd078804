-- The numbers that decimal digits without leading zeros write, as the reader finds them and as the writer writes them.
use Rattle.std.proofs.Common.{◌≡◌, ℕ, ◌-◌, ◌^◌, ◌<◌, ◌&&◌, not, true, false, cond, ◌==◌, List, get_or, length, Option, Some, None, option_and_then, nat_lt, zero, suc, Bool, IfSome, IfNone, refl, sym, ap, ◌∙◌, rules, arith}
use Rattle.std.proofs.lemmas.Bool.Decides.{nat_tests}
use Rattle.std.proofs.lemmas.Fmt.{decimal-digits_value, digits_value-decimal, decimal_digit, decimal_nonempty, digits_decimal, first_decimal}
use Rattle.std.proofs.lemmas.Option.{option_and_then_some, same_Some}
use Rattle.std.proofs.lemmas.Str.Parse.{IsDigitsTest, IsNumeralModel, numerals_by_value}
use Rattle.std.specs.Char.{is_ascii_digit}
use Rattle.std.specs.Fmt.{decimal}
use Rattle.std.specs.List.{list_all}
use Rattle.std.specs.Str.Parse.{digits_value}
use Rattle.text_fields.specs.Decimal.{decimal_of, has_leading_zero, number_of, within}
use Rattle.text_fields.proofs.Ranges.{within-found, within-is}

abbrev OnlyDigits : List ℕ → Type 0
OnlyDigits ds = list_all is_ascii_digit ds ≡ true

tells : IsDigitsTest OnlyDigits
tells = search rules

own : IsNumeralModel OnlyDigits (digits_value 10)
own = numerals_by_value OnlyDigits tells

some-length : (k : ℕ) → 0 < k → (k == 0) ≡ false
some-length k some = grind (arith, nat_tests)

leading : (n : ℕ) → n < 2 ^ 64 → has_leading_zero (decimal n) ≡ false
leading zero small =
    rw (decimal_digit 0 (omega arith)) refl
leading (suc n) small =
    let first = first_decimal (suc n) (omega arith) small in
    let other : (get_or (decimal (suc n)) 0 0 == 48) ≡ false = grind (arith, nat_tests) in
    none (nat_lt 1 (length (decimal (suc n)))) _ other
  where
    none : (a b : _) → b ≡ false → (a && b) ≡ false
    none true b is = is
    none false b is = refl

-- the reader finds the number that was written
pub decimal_of-decimal : (n : ℕ) → n < 2 ^ 64 → decimal_of (decimal n) ≡ Some n
decimal_of-decimal n small =
    rw (some-length (length (decimal n)) (decimal_nonempty n small), digits_decimal own n small, leading n small)
    (ap (λ v. Some v) (digits_value-decimal own n small))

-- and the digits that it reads are those that are written of the number
pub decimal-read : (field : List ℕ) (n : ℕ) → decimal_of field ≡ Some n → n < 2 ^ 64 → field ≡ decimal n
decimal-read field n read small =
    by (length field == 0) (list_all is_ascii_digit field) (has_leading_zero field) refl refl refl read
  where
    alone : (k first : ℕ) → 0 < k → (nat_lt 1 k && (first == 48)) ≡ false → first ≡ 48 → k ≡ 1
    alone k first some other is = let test : (first == 48) ≡ true = grind (arith, nat_tests) in grind (arith, nat_tests)

    by : (empty digits zeros : _) → (length field == 0) ≡ empty → list_all is_ascii_digit field ≡ digits → has_leading_zero field ≡ zeros
        → (cond (not empty && digits && not zeros) (Some (digits_value 10 field)) None) ≡ Some n → field ≡ decimal n
    by false true false some digits leading read =
        let value : digits_value 10 field ≡ n = same_Some _ _ read in
        let longer : 0 < length field = grind (arith, nat_tests) in
        sym (decimal-digits_value own field digits longer (λ is. alone (length field) (get_or field 0 0) longer leading is) (omega arith))
        ∙ ap decimal value
    by true digits zeros some all leading read = absurd (cc)
    by false false zeros some all leading read = absurd (cc)
    by false true true some all leading read = absurd (cc)

pub all-decimal : (n : ℕ) → n < 2 ^ 64 → list_all is_ascii_digit (decimal n) ≡ true
all-decimal n small = digits_decimal own n small

-- a number with a zero before its digits is written so by none
pub none-leading : (field : List ℕ) → true ≡ has_leading_zero field → (n : ℕ) → n < 2 ^ 64 → field ≡ decimal n → ⊥
none-leading field test n small is =
    let other : has_leading_zero field ≡ false = ap has_leading_zero is ∙ leading n small in
    let wrong : true ≡ false = test ∙ other in
    cc

number-is : (field : List ℕ) → has_leading_zero field ≡ false → decimal_of field ≡ number_of field
number-is field none = rw none (keep (not (length field == 0)) (list_all is_ascii_digit field) (Some (digits_value 10 field)))
  where
    keep : (a b : Bool) (x : Option ℕ) → cond (a && b && true) x None ≡ cond (a && b) x None
    keep true true x = refl
    keep true false x = refl
    keep false b x = refl

-- what a reader of digits finds where no zero leads
module _ (field : List ℕ) (none : has_leading_zero field ≡ false) where
  pub found-decimal : (r : Option ℕ) → r ≡ option_and_then (within 0 (2 ^ 64 - 1)) (number_of field) → IfSome r (λ n. field ≡ decimal n)
  found-decimal None is = tt
  found-decimal (Some n) is =
      option_and_then_some (within 0 (2 ^ 64 - 1)) (number_of field) n (sym is) (λ v found fits.
      let parts = within-is 0 (2 ^ 64 - 1) v n fits in
      decimal-read field n (number-is field none ∙ found ∙ ap (λ m. Some m) parts.0) (omega (arith, parts.2)))

  pub none-decimal : (r : Option ℕ) → r ≡ option_and_then (within 0 (2 ^ 64 - 1)) (number_of field)
      → IfNone r ((n : ℕ) → n < 2 ^ 64 → field ≡ decimal n → ⊥)
  none-decimal (Some v) is = tt
  none-decimal None is = λ n small same.
      let there : option_and_then (within 0 (2 ^ 64 - 1)) (number_of field) ≡ Some n =
      ap (option_and_then (within 0 (2 ^ 64 - 1))) (sym (number-is field none) ∙ ap decimal_of same ∙ decimal_of-decimal n small)
      ∙ within-found 0 (2 ^ 64 - 1) n (omega arith) (omega arith) in
      let wrong : None ≡ Some n = is ∙ there in
      cc
