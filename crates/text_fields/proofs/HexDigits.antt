-- Hexadecimal digits, and those of a number at a fixed width.
use Rattle.std.proofs.Common.{◌≡◌, ℕ, zero, suc, ◌+◌, ◌/◌, ◌%◌, ◌<◌, ◌≤◌, true, false, nat_lt, List, get_or, [], ◌∷◌, ◌++◌, length, refl, sym, ap, ◌∙◌, arith, ⊎_elim}
use Rattle.std.proofs.lemmas.Bool.{and_parts, and_from, cases_lt, cond-false, cond-true}
use Rattle.std.proofs.lemmas.Bool.Decides.{nat_tests}
use Rattle.std.proofs.lemmas.List.{length-append}
use Rattle.std.proofs.lemmas.List.Folds.{list_all-append}
use Rattle.std.specs.Char.{digit_value, is_ascii_hexdigit}
use Rattle.std.specs.Fmt.{digit_glyph}
use Rattle.std.specs.List.{list_all}
use Rattle.std.specs.Str.Parse.{AllDigits}
use Rattle.text_fields.specs.Hexadecimal.{hex_digits, is_hex_digit}

pub hex_digits-zero : (n : ℕ) → hex_digits 0 n ≡ []
unfolding hex_digits
hex_digits-zero n = refl

pub hex_digits-suc : (k n : ℕ) → hex_digits (suc k) n ≡ hex_digits k (n / 16) ++ digit_glyph false (n % 16) ∷ []
unfolding hex_digits
hex_digits-suc k n = refl

-- Digits

low-digit : (v b : ℕ) → b ≡ 48 + v → v < 10 → (is_hex_digit b ≡ true) × (digit_value b ≡ v)
low-digit v b is low = (grind (arith, nat_tests), grind (arith, nat_tests))

high-digit : (v b : ℕ) → b ≡ 87 + v → 10 ≤ v → v < 16 → (is_hex_digit b ≡ true) × (digit_value b ≡ v)
high-digit v b is high small = (grind (arith, nat_tests), grind (arith, nat_tests))

pub glyph-low : (v : ℕ) → v < 10 → digit_glyph false v ≡ 48 + v
glyph-low v low = let test : nat_lt v 10 ≡ true = grind (arith, nat_tests) in cond-true (nat_lt v 10) (48 + v) (87 + v) test

glyph-high : (v : ℕ) → 10 ≤ v → digit_glyph false v ≡ 87 + v
glyph-high v high = let test : nat_lt v 10 ≡ false = grind (arith, nat_tests) in cond-false (nat_lt v 10) (48 + v) (87 + v) test

-- the digit that is written of a number below 16
pub glyph-is : (v : ℕ) → v < 16 → (is_hex_digit (digit_glyph false v) ≡ true) × (digit_value (digit_glyph false v) ≡ v)
glyph-is v small =
    ⊎_elim
    (λ (low : v < 10). low-digit v (digit_glyph false v) (glyph-low v low) low)
    (λ (high : 10 ≤ v). high-digit v (digit_glyph false v) (glyph-high v high) high small)
    (cases_lt v 10)

digit-value : (b : ℕ) → is_hex_digit b ≡ true → (b < 58 → b ≡ 48 + digit_value b) × (58 ≤ b → b ≡ 87 + digit_value b) × (digit_value b < 16) × (b < 58 → digit_value b < 10) × (58 ≤ b → 10 ≤ digit_value b)
digit-value b is =
    (λ low. grind (arith, nat_tests), λ high. grind (arith, nat_tests), grind (arith, nat_tests), λ low. grind (arith, nat_tests), λ high. grind (arith, nat_tests))

-- a digit is the one that is written of its value
pub digit-is : (b : ℕ) → is_hex_digit b ≡ true → (digit_glyph false (digit_value b) ≡ b) × (digit_value b < 16)
digit-is b is =
    let (low, high, small, below, above) = digit-value b is in (
      ⊎_elim
          (λ (under : b < 58). glyph-low (digit_value b) (below under) ∙ sym (low under))
          (λ (over : 58 ≤ b). glyph-high (digit_value b) (above over) ∙ sym (high over))
          (cases_lt b 58),
      small,
    )

-- a digit in lower case is a digit
pub lower-digit : (b : ℕ) → is_hex_digit b ≡ true → is_ascii_hexdigit b ≡ true
lower-digit b is = grind (arith, nat_tests)

pub lower-digits : (field : List ℕ) → list_all is_hex_digit field ≡ true → list_all is_ascii_hexdigit field ≡ true
lower-digits [] all = refl
lower-digits (b ∷ rest) all =
    let (here, more) = and_parts (is_hex_digit b) (list_all is_hex_digit rest) all in
    and_from (is_ascii_hexdigit b) (list_all is_ascii_hexdigit rest) (lower-digit b here) (lower-digits rest more)

pub digit-small : (b : ℕ) → is_ascii_hexdigit b ≡ true → digit_value b < 16
digit-small b is = grind (arith, nat_tests)

pub digits-small : (field : List ℕ) → list_all is_ascii_hexdigit field ≡ true → AllDigits 16 field
digits-small [] all = tt
digits-small (b ∷ rest) all =
    let (here, more) = and_parts (is_ascii_hexdigit b) (list_all is_ascii_hexdigit rest) all in
    (digit-small b here, digits-small rest more)

-- each digit is one
pub digit-at : (field : List ℕ) (i : ℕ) → list_all is_ascii_hexdigit field ≡ true → i < length field → is_ascii_hexdigit (get_or field i 0) ≡ true
digit-at [] i all within = absurd (omega arith)
digit-at (b ∷ rest) zero all within = (and_parts (is_ascii_hexdigit b) (list_all is_ascii_hexdigit rest) all).0
digit-at (b ∷ rest) (suc i) all within = digit-at rest i (and_parts (is_ascii_hexdigit b) (list_all is_ascii_hexdigit rest) all).1 (omega arith)

-- At a fixed width

pub length-hex : (k n : ℕ) → length (hex_digits k n) ≡ k
length-hex zero n = ap length (hex_digits-zero n)
length-hex (suc k) n =
    let rest = length-hex k (n / 16) in
    let whole = ap length (hex_digits-suc k n) ∙ length-append (hex_digits k (n / 16)) (digit_glyph false (n % 16) ∷ []) in
    omega arith

pub all-hex : (k n : ℕ) → list_all is_hex_digit (hex_digits k n) ≡ true
all-hex zero n = ap (list_all is_hex_digit) (hex_digits-zero n)
all-hex (suc k) n =
    let last : list_all is_hex_digit (digit_glyph false (n % 16) ∷ []) ≡ true = rw ((glyph-is (n % 16) (omega arith)).0) refl in
    ap (list_all is_hex_digit) (hex_digits-suc k n)
    ∙ list_all-append is_hex_digit (hex_digits k (n / 16)) (digit_glyph false (n % 16) ∷ [])
    ∙ and_from (list_all is_hex_digit (hex_digits k (n / 16))) (list_all is_hex_digit (digit_glyph false (n % 16) ∷ [])) (all-hex k (n / 16)) last

pub hex-two : (b : ℕ) → b < 256 → hex_digits 2 b ≡ digit_glyph false (b / 16) ∷ digit_glyph false (b % 16) ∷ []
hex-two b small =
    let high : (b / 16) % 16 ≡ b / 16 = omega arith in
    hex_digits-suc 1 b
    ∙ ap (λ l. l ++ digit_glyph false (b % 16) ∷ []) (hex_digits-suc 0 (b / 16) ∙ ap (λ l. l ++ digit_glyph false ((b / 16) % 16) ∷ []) (hex_digits-zero (b / 16 / 16)))
    ∙ ap (λ v. digit_glyph false v ∷ digit_glyph false (b % 16) ∷ []) high
