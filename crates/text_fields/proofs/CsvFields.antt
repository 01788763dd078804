-- The fields of a row and the numbers that they write.
use Rattle.std.proofs.Common.{◌≡◌, ℕ, ◌+◌, ◌*◌, ◌-◌, ◌^◌, ◌<◌, ◌≤◌, ◌==◌, if◌then◌else◌, true, false, List, [], ◌∷◌, length, map, get_or, slice_get, Option, Some, None, option_map, option_and_then, nat_le, zero, suc, refl, inl, inr, arith}
use Rattle.std.proofs.Math.Nat.{pow-le-pow_right}
use Rattle.std.proofs.lemmas.Bool.{cases_Bool}
use Rattle.std.proofs.lemmas.Bool.Decides.{nat_tests}
use Rattle.std.proofs.lemmas.Option.{none-some}
use Rattle.std.specs.Char.{digit_value, is_ascii_digit}
use Rattle.std.specs.List.{list_all}
use Rattle.std.specs.Str.Parse.{digits_value_after}
use Rattle.csv.specs.Records.{field_at}
use Rattle.text_fields.specs.Decimal.{number_of, within}

-- the field at a place, when each field is changed alike
pub field_at-map : (change : List ℕ → List ℕ) (row : List (List ℕ)) (place : ℕ) → field_at (map change row) place ≡ option_map change (field_at row place)
unfolding field_at
field_at-map change [] place = refl
field_at-map change (field ∷ rest) zero = refl
field_at-map change (field ∷ rest) (suc place) = field_at-map change rest place

-- the field at a place, as the list's item there
pub field_at-item : (row : List (List ℕ)) (place : ℕ) → field_at row place ≡ slice_get row place
unfolding field_at
field_at-item [] zero = refl
field_at-item [] (suc place) = refl
field_at-item (field ∷ rest) zero = refl
field_at-item (field ∷ rest) (suc place) = field_at-item rest place

-- the number that digits write behind a number, where they are digits and it fits its type
abbrev pub decimal_from : ℕ → List ℕ → Option ℕ
decimal_from number digits =
    if list_all is_ascii_digit digits then within 0 (2 ^ 64 - 1) (digits_value_after 10 number digits) else None

at_least : (number : ℕ) (digits : List ℕ) → number ≤ digits_value_after 10 number digits
at_least number [] = omega arith
at_least number (byte ∷ rest) = omega (arith, at_least (number * 10 + digit_value byte) rest)

within_none : (value : ℕ) → None ≡ within 0 (2 ^ 64 - 1) value → nat_le value (2 ^ 64 - 1) ≡ false
within_none value h =
    let least : nat_le 0 value ≡ true = grind (arith, nat_tests) in
    elim (cases_Bool (nat_le value (2 ^ 64 - 1))) [
      | inl e ↦ absurd (none-some value (rw (least, e) at h))
      | inr e ↦ e
    ]

module _ (number byte : ℕ) (rest : List ℕ) where
  too_large : nat_le (number * 10 + digit_value byte) (2 ^ 64 - 1) ≡ false
      → nat_le (digits_value_after 10 (number * 10 + digit_value byte) rest) (2 ^ 64 - 1) ≡ false
  too_large h = grind (arith, nat_tests, h, at_least (number * 10 + digit_value byte) rest)

  -- a byte that is no digit, or a digit with which the number no longer fits its type
  pub no_next_digit : None ≡ (if is_ascii_digit byte then within 0 (2 ^ 64 - 1) (number * 10 + digit_value byte) else None)
      → decimal_from number (byte ∷ rest) ≡ None
  no_next_digit h =
      elim (cases_Bool (is_ascii_digit byte)) [
        | inl e ↦
            let large : nat_le (digits_value_after 10 (number * 10 + digit_value byte) rest) (2 ^ 64 - 1) ≡ false = too_large (within_none (number * 10 + digit_value byte) (rw e at h)) in
            let least : nat_le 0 (digits_value_after 10 (number * 10 + digit_value byte) rest) ≡ true = grind (arith, nat_tests) in
            elim (cases_Bool (list_all is_ascii_digit rest)) [
              | inl all ↦ rw (e, all, least, large) refl
              | inr other ↦ rw (e, other) refl
            ]
        | inr e ↦ rw e refl
      ]

-- the same of a list with a byte at least
pub stops_at_front : (number : ℕ) (left : List ℕ) → 1 ≤ length left
    → None ≡ (if is_ascii_digit (get_or left 0 0) then within 0 (2 ^ 64 - 1) (number * 10 + digit_value (get_or left 0 0)) else None)
    → decimal_from number left ≡ None
stops_at_front number [] some h = absurd (omega arith)
stops_at_front number (byte ∷ rest) some h = no_next_digit number byte rest h

-- no byte is left
pub no_more_digits : (number : ℕ) (left : List ℕ) → length left < 1 → number < 2 ^ 64 → decimal_from number left ≡ Some number
no_more_digits number (byte ∷ rest) none small = absurd (omega arith)
no_more_digits number [] none small =
    let least : nat_le 0 number ≡ true = grind (arith, nat_tests) in
    let fits : nat_le number (2 ^ 64 - 1) ≡ true = grind (arith, nat_tests, small) in
    rw (least, fits) refl

-- the number of a field that is not empty
pub field_number : (field : List ℕ) → 0 < length field → option_and_then (within 0 (2 ^ 64 - 1)) (number_of field) ≡ decimal_from 0 field
field_number field some =
    let test : (length field == 0) ≡ false = grind (arith, nat_tests, some) in
    elim (cases_Bool (list_all is_ascii_digit field)) [
      | inl e ↦ rw (test, e) refl
      | inr e ↦ rw (test, e) refl
    ]

-- a number of at most 18 digits is below 10 ^ 18, and so leaves room for one digit more
pub few_digits : (number count : ℕ) → number < 10 ^ count → count ≤ 18 → number < 10 ^ 18
few_digits number count small few =
    let more : 10 ^ count ≤ 10 ^ 18 = pow-le-pow_right {n = 10} (omega arith) few in
    omega (arith, small, more)
