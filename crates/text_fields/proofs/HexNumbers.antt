-- The numbers that hexadecimal digits in lower case write, as the reader finds them and as the writer writes them.
use Rattle.std.proofs.Common.{Bool, ◌≡◌, ℕ, zero, suc, ◌+◌, ◌-◌, ◌*◌, ◌/◌, ◌%◌, ◌^◌, ◌<◌, ◌≤◌, ◌&&◌, true, false, if◌then◌else◌, ◌==◌, None, List, [], ◌∷◌, ◌++◌, length, Some, sym, ap, ◌∙◌, subst, arith, append_assoc}
use Rattle.std.proofs.lemmas.Bool.{and_parts, eqb-true, eq-eqb}
use Rattle.std.proofs.lemmas.Int.Digits.{digits_value-lt, digits_value_push}
use Rattle.std.proofs.lemmas.List.{append-nil}
use Rattle.std.proofs.lemmas.Option.{same_Some}
use Rattle.std.proofs.Math.Nat.{pow-suc}
use Rattle.std.specs.Char.{digit_value}
use Rattle.std.specs.Fmt.{digit_glyph}
use Rattle.std.specs.List.{list_all}
use Rattle.std.specs.Str.Parse.{digits_value, digits_value_after}
use Rattle.text_fields.specs.Hexadecimal.{hex_digits, hex_of, is_hex_digit}
use Rattle.text_fields.proofs.Ranges.{if-some}
use Rattle.text_fields.proofs.HexDigits.{all-hex, digit-is, digits-small, glyph-is, hex_digits-suc, hex_digits-zero, length-hex, lower-digits}

-- what fewer digits write is small enough for more of them
pub pow-small : (k i n : ℕ) → n < 16 ^ i → i ≤ k → n < 16 ^ k
pow-small k i n small few = grow (k - i) i n small (omega arith)
  where
    grow : (more i n : ℕ) → n < 16 ^ i → i + more ≡ k → n < 16 ^ k
    grow zero i n small is = let same : i ≡ k = omega arith in rw same at small
    grow (suc more) i n small is = let next = pow-suc 16 i in grow more (suc i) n (omega (arith, next)) (omega arith)

hex-next : (k v d : ℕ) → d < 16 → hex_digits (suc k) (v * 16 + d) ≡ hex_digits k v ++ digit_glyph false d ∷ []
hex-next k v d small =
    let front : (v * 16 + d) / 16 ≡ v = omega arith in
    let last : (v * 16 + d) % 16 ≡ d = omega arith in
    hex_digits-suc k (v * 16 + d) ∙ ap (λ n. hex_digits k n ++ digit_glyph false ((v * 16 + d) % 16) ∷ []) front
    ∙ ap (λ n. hex_digits k v ++ digit_glyph false n ∷ []) last

-- the digits of a number that more digits go on
hex-after : (j s : ℕ) (ds : List ℕ) → list_all is_hex_digit ds ≡ true
    → hex_digits (j + length ds) (digits_value_after 16 s ds) ≡ hex_digits j s ++ ds
hex-after j s [] h = let none : j + 0 ≡ j = omega arith in ap (λ k. hex_digits k s) none ∙ sym (append-nil (hex_digits j s))
hex-after j s (d ∷ ds) h =
    let (here, more) = and_parts (is_hex_digit d) (list_all is_hex_digit ds) h in
    let v = digit_value d in
    let is = digit-is d here in
    let count : j + suc (length ds) ≡ suc j + length ds = omega arith in
    ap (λ k. hex_digits k (digits_value_after 16 (s * 16 + v) ds)) count
    ∙ hex-after (suc j) (s * 16 + v) ds more
    ∙ ap (λ l. l ++ ds) (hex-next j s v is.1)
    ∙ append_assoc (hex_digits j s) (digit_glyph false v ∷ []) ds
    ∙ ap (λ g. hex_digits j s ++ g ∷ ds) is.0

value-hex : (k n : ℕ) → n < 16 ^ k → digits_value 16 (hex_digits k n) ≡ n
value-hex zero n small = ap (digits_value 16) (hex_digits-zero n) ∙ (let none : 0 ≡ n = omega arith in none)
value-hex (suc k) n small =
    let bound : n < 16 * 16 ^ k = omega (arith, pow-suc 16 k) in
    let front : digits_value 16 (hex_digits k (n / 16)) ≡ n / 16 = value-hex k (n / 16) (omega arith) in
    let last = (glyph-is (n % 16) (omega arith)).1 in
    let whole = ap (digits_value 16) (hex_digits-suc k n) ∙ digits_value_push 16 (hex_digits k (n / 16)) (digit_glyph false (n % 16)) in
    omega arith

-- the reader finds the number that was written, and the digits that it reads are those that are written of the number
pub hex_of-digits : (k n : ℕ) → n < 16 ^ k → hex_of k (hex_digits k n) ≡ Some n
hex_of-digits k n small =
    let count : (length (hex_digits k n) == k) ≡ true = eq-eqb _ _ (length-hex k n) in
    rw (count, all-hex k n) (ap (λ v. Some v) (value-hex k n small))

pub digits-of_hex : (k : ℕ) (field : List ℕ) (n : ℕ) → hex_of k field ≡ Some n → (field ≡ hex_digits k n) × (n < 16 ^ k)
digits-of_hex k field n read =
    let parts = if-some ((length field == k) && list_all is_hex_digit field) (Some (digits_value 16 field)) n read in
    let (count, all) = and_parts (length field == k) (list_all is_hex_digit field) parts.0 in
    let size : length field ≡ k = eqb-true (length field) k count in
    let value : digits_value 16 field ≡ n = same_Some _ _ parts.1 in
    let written : hex_digits (0 + length field) (digits_value 16 field) ≡ field =
    hex-after 0 0 field all ∙ ap (λ l. l ++ field) (hex_digits-zero 0) in
    let none : 0 + length field ≡ k = omega arith in (
      sym written ∙ ap (λ j. hex_digits j (digits_value 16 field)) none ∙ ap (hex_digits k) value,
      subst (λ v. v < 16 ^ k) value (subst (λ j. digits_value 16 field < 16 ^ j) size (digits_value-lt 16 field (digits-small field (lower-digits field all)))),
    )

-- two numbers with the same digits are one
pub hex-injective : (k m n : ℕ) → m < 16 ^ k → n < 16 ^ k → hex_digits k m ≡ hex_digits k n → m ≡ n
hex-injective k m n small other is = same_Some m n (sym (hex_of-digits k m small) ∙ ap (hex_of k) is ∙ hex_of-digits k n other)

-- what so many digits write has them
pub hex-read : (k : ℕ) (field : List ℕ) (n : ℕ) → length field ≡ k → list_all is_hex_digit field ≡ true → n ≡ digits_value 16 field → field ≡ hex_digits k n
hex-read k field n size all is =
    let test : (length field == k) ≡ true = eq-eqb _ _ size in
    let read : hex_of k field ≡ Some n = rw (test, all) (ap (λ v. Some v) (sym is)) in
    (digits-of_hex k field n read).0

-- a digit that is read is one, and has this value
pub digit-read : (is_digit : ℕ → Bool) (b v : ℕ) → (if is_digit b then Some (digit_value b) else None) ≡ Some v
    → (is_digit b ≡ true) × (digit_value b ≡ v)
digit-read is_digit b v is = let parts = if-some (is_digit b) (Some (digit_value b)) v is in (parts.0, same_Some (digit_value b) v parts.1)

-- a word that is read is that of digits
pub word-read : (field : List ℕ) (n : ℕ) → (if list_all is_hex_digit field then Some (digits_value 16 field) else None) ≡ Some n
    → (list_all is_hex_digit field ≡ true) × (digits_value 16 field ≡ n)
word-read field n is =
    let parts = if-some (list_all is_hex_digit field) (Some (digits_value 16 field)) n is in
    (parts.0, same_Some (digits_value 16 field) n parts.1)

pub word-none : (field : List ℕ) → list_all is_hex_digit field ≡ true
    → None ≡ (if list_all is_hex_digit field then Some (digits_value 16 field) else None) → ⊥
word-none field all is =
    let some : (if list_all is_hex_digit field then Some (digits_value 16 field) else None) ≡ Some (digits_value 16 field)
    = ap (λ b. if b then Some (digits_value 16 field) else None) all in
    let wrong : None ≡ Some (digits_value 16 field) = is ∙ some in
    cc
