-- Fields by their bytes: the numbers, identifiers, sets of slots and data bytes that digits write, and rows of them.
use Rattle.std.proofs.Common.{◌≡◌, ℕ, ◌+◌, ◌%◌, ◌^◌, ◌<◌, ◌≤◌, ◌==◌, Bool, true, List, [], ◌∷◌, ◌++◌, All, codes, drop, get_or, length, nat_le, take, Option, Some, None, IfSome, refl, sym, ap, ◌∙◌, arith, append_assoc, inl, inr, subst}
use Rattle.std.proofs.lemmas.Bool.{and_from, cases_lt, eq-eqb}
use Rattle.std.proofs.lemmas.Bool.Decides.{nat_tests}
use Rattle.std.proofs.lemmas.Fmt.{decimal-digits_value}
use Rattle.std.proofs.lemmas.List.{drop-drop, get_or-drop, get_or-take, length-drop, length-take, take-append-drop}
use Rattle.std.proofs.Math.Seq.{drop-cons}
use Rattle.std.proofs.lemmas.Str.Parse.{IsNumeralModel, digits_value_short, numerals_by_value, tells_by_index}
use Rattle.std.specs.Char.{digit_value, is_ascii_digit}
use Rattle.std.specs.Fmt.{decimal}
use Rattle.std.specs.Int.{IsInRange}
use Rattle.std.specs.List.{flat_map, join_with_byte, list_all}
use Rattle.std.specs.Str.Parse.{digits_value}
use Rattle.text_fields.specs.ByteText.{bytes_written, data_of}
use Rattle.text_fields.specs.Hexadecimal.{hex_digits, hex_of, is_hex_digit}
use Rattle.text_fields.specs.MaskText.{mask_digits, mask_of}
use Rattle.text_fields.proofs.Shared.{all-run, data-read, digits-of_hex, digits-of_mask}
use Rattle.log_reader.specs.RowBytes.{BeginsWithBody, BeginsWithRow}
use Rattle.log_reader.specs.declared.row.LogRow.TheVariants as row

-- what holds of what is found
pub some-by : {X : Type 0} {P Q : X → Type 0} (found : Option X) → IfSome found P → ((x : X) → P x → Q x) → IfSome found Q
some-by None is by = tt
some-by (Some x) is by = by x is

-- Numbers

abbrev AreDigits : List ℕ → Type 0
AreDigits digits = (i : ℕ) → i < length digits → IsInRange 48 57 (get_or digits i 0)

own : IsNumeralModel AreDigits (digits_value 10)
own = numerals_by_value AreDigits tells_by_index

digit-range : (x : ℕ) → is_ascii_digit x ≡ true → IsInRange 48 57 x
digit-range x is = (grind (arith, nat_tests), grind (arith, nat_tests))

module _ (bytes : List ℕ) (run : ℕ) (within : run ≤ length bytes) (few : run ≤ 16) where
  long : length (take run bytes) ≡ run
  long = let size = length-take run bytes in omega (arith, size, within)

  split : (byte : ℕ) (rest : List ℕ) → drop run bytes ≡ byte ∷ rest → bytes ≡ take run bytes ++ byte ∷ rest
  split byte rest is = sym (take-append-drop run bytes) ∙ ap (λ l. take run bytes ++ l) is

  -- digits without a zero before others are those of a number
  pub number-behind : (most byte : ℕ) (rest : List ℕ) → most ≤ 16 → run ≤ most → 0 < run → (get_or bytes 0 0 ≡ 48 → run ≡ 1)
      → ((i : ℕ) → i < run → is_ascii_digit (get_or bytes i 0) ≡ true) → drop run bytes ≡ byte ∷ rest
      → (n : ℕ) × (n < 10 ^ most) × (bytes ≡ decimal n ++ byte ∷ rest)
  number-behind most byte rest small short some lead each is =
      let digits = take run bytes in
      let are : AreDigits digits = λ i inside.
      let before : i < run = omega (arith, inside, long) in
      let here = get_or-take run bytes i 0 before in
      let range = digit-range (get_or bytes i 0) (each i before) in
      (omega (arith, here, range.0), omega (arith, here, range.1)) in
      let first = get_or-take run bytes 0 0 some in
      let one : get_or digits 0 0 ≡ 48 → length digits ≡ 1 = λ zero. long ∙ lead (sym first ∙ zero) in
      let below = digits_value_short own digits most are (omega (arith, long, short)) in
      let wide = digits_value_short own digits 16 are (omega (arith, long, few)) in
      let written = decimal-digits_value own digits are (omega (arith, long, some)) one (omega (arith, wide)) in
      (digits_value 10 digits, below, split byte rest is ∙ ap (λ l. l ++ byte ∷ rest) (sym written))

  -- an even number of digits are those of data bytes
  pub data-behind : (byte : ℕ) (rest : List ℕ) → run % 2 ≡ 0 → ((i : ℕ) → i < run → is_hex_digit (get_or bytes i 0) ≡ true)
      → drop run bytes ≡ byte ∷ rest
      → (content : List ℕ) × (length content ≤ 8) × All (λ b. b < 256) content × (bytes ≡ flat_map (hex_digits 2) content ++ byte ∷ rest)
  data-behind byte rest even each is =
      let digits = take run bytes in
      let most : nat_le (length digits) 16 ≡ true = grind (arith, nat_tests, long, few) in
      let half : length digits % 2 ≡ 0 = ap (λ n. n % 2) long ∙ even in
      let read : data_of digits ≡ Some (bytes_written digits) = rw (most, eq-eqb _ _ half, all-run bytes run within is_hex_digit each) refl in
      let (are, short, all) = data-read digits (bytes_written digits) read in
      (bytes_written digits, short, all, split byte rest is ∙ ap (λ l. l ++ byte ∷ rest) are)

  -- ten digits are those of a set of slots
  pub mask-behind : (byte : ℕ) (rest : List ℕ) → run ≡ 10 → ((i : ℕ) → i < run → is_hex_digit (get_or bytes i 0) ≡ true)
      → drop run bytes ≡ byte ∷ rest → (mask : ℕ) × (mask < 2 ^ 96) × (bytes ≡ mask_digits mask ++ byte ∷ rest)
  unfolding mask_of
  mask-behind byte rest ten each is =
      let digits = take run bytes in
      let size : (length digits == 10) ≡ true = eq-eqb _ _ (long ∙ ten) in
      let read : mask_of digits ≡ Some (digits_value 16 digits) = rw (size, all-run bytes run within is_hex_digit each) refl in
      let (are, small) = digits-of_mask digits (digits_value 16 digits) read in
      (digits_value 16 digits, small, split byte rest is ∙ ap (λ l. l ++ byte ∷ rest) are)

-- bytes that are known one by one are those of the word of a frame's row and a comma
pub word-is : (bytes : List ℕ) → 6 ≤ length bytes → get_or bytes 0 0 ≡ 102 → get_or bytes 1 0 ≡ 114 → get_or bytes 2 0 ≡ 97
    → get_or bytes 3 0 ≡ 109 → get_or bytes 4 0 ≡ 101 → get_or bytes 5 0 ≡ 44 → bytes ≡ codes "frame," ++ drop 6 bytes
word-is [] enough a b c d e f = absurd (omega (arith, enough))
word-is (one ∷ []) enough a b c d e f = absurd (omega (arith, enough))
word-is (one ∷ two ∷ []) enough a b c d e f = absurd (omega (arith, enough))
word-is (one ∷ two ∷ three ∷ []) enough a b c d e f = absurd (omega (arith, enough))
word-is (one ∷ two ∷ three ∷ four ∷ []) enough a b c d e f = absurd (omega (arith, enough))
word-is (one ∷ two ∷ three ∷ four ∷ five ∷ []) enough a b c d e f = absurd (omega (arith, enough))
word-is (one ∷ two ∷ three ∷ four ∷ five ∷ six ∷ rest) enough a b c d e f =
    ap (λ x. x ∷ two ∷ three ∷ four ∷ five ∷ six ∷ rest) a ∙ ap (λ x. 102 ∷ x ∷ three ∷ four ∷ five ∷ six ∷ rest) b
    ∙ ap (λ x. 102 ∷ 114 ∷ x ∷ four ∷ five ∷ six ∷ rest) c ∙ ap (λ x. 102 ∷ 114 ∷ 97 ∷ x ∷ five ∷ six ∷ rest) d
    ∙ ap (λ x. 102 ∷ 114 ∷ 97 ∷ 109 ∷ x ∷ six ∷ rest) e ∙ ap (λ x. 102 ∷ 114 ∷ 97 ∷ 109 ∷ 101 ∷ x ∷ rest) f

-- Identifiers

first-value : (x : ℕ) → 48 ≤ x → x ≤ 55 → (is_hex_digit x ≡ true) × (digit_value x + 48 ≡ x)
first-value x low high = (grind (arith, nat_tests), grind (arith, nat_tests))

later-value : (x : ℕ) → is_hex_digit x ≡ true → (digit_value x ≤ 15) × (x < 102 → digit_value x ≤ 14)
later-value x is = (grind (arith, nat_tests), λ below. grind (arith, nat_tests))

identifier-is : (high middle low : ℕ) → 48 ≤ high → high ≤ 55 → is_hex_digit middle ≡ true → is_hex_digit low ≡ true
    → (high ≡ 55 → middle < 102) → (id : ℕ) × (id ≤ 0x7EF) × (high ∷ middle ∷ low ∷ [] ≡ hex_digits 3 id)
identifier-is high middle low least most second third fits =
    let field = high ∷ middle ∷ low ∷ [] in
    let one = first-value high least most in
    let two = later-value middle second in
    let three = later-value low third in
    let read : hex_of 3 field ≡ Some (digits_value 16 field) =
    rw (and_from _ _ one.0 (and_from _ _ second (and_from _ _ third refl))) refl in
    let (are, small) = digits-of_hex 3 field (digits_value 16 field) read in
    let within : digits_value 16 field ≤ 0x7EF = elim (cases_lt high 55) [
      | inl below ↦ omega (arith, one.1, two.0, three.0, below)
      | inr over ↦ let below : middle < 102 = fits (omega (arith, most, over)) in omega (arith, one.1, most, two.1 below, three.0)
    ] in
    (digits_value 16 field, within, are)

pub identifier-behind : (bytes rest : List ℕ) → 3 ≤ length bytes → 48 ≤ get_or bytes 0 0 → get_or bytes 0 0 ≤ 55
    → is_hex_digit (get_or bytes 1 0) ≡ true → is_hex_digit (get_or bytes 2 0) ≡ true
    → (get_or bytes 0 0 ≡ 55 → get_or bytes 1 0 < 102) → drop 3 bytes ≡ 44 ∷ rest
    → (id : ℕ) × (id ≤ 0x7EF) × (bytes ≡ hex_digits 3 id ++ 44 ∷ rest)
identifier-behind [] rest enough least most second third fits is = absurd (omega (arith, enough))
identifier-behind (high ∷ []) rest enough least most second third fits is = absurd (omega (arith, enough))
identifier-behind (high ∷ middle ∷ []) rest enough least most second third fits is = absurd (omega (arith, enough))
identifier-behind (high ∷ middle ∷ low ∷ later) rest enough least most second third fits is =
    let (id, within, are) = identifier-is high middle low least most second third fits in
    (id, within, ap (λ l. high ∷ middle ∷ low ∷ l) is ∙ ap (λ l. l ++ 44 ∷ rest) are)

-- Rows

-- the text of a row, and what stands behind it, by its fields
pub frame-text : (a b c d rest : List ℕ) → (join_with_byte 44 (codes "frame" ∷ a ∷ b ∷ c ∷ d ∷ []) ++ 10 ∷ []) ++ rest
    ≡ codes "frame," ++ (a ++ 44 ∷ (b ++ 44 ∷ (c ++ 44 ∷ (d ++ 10 ∷ rest))))
frame-text a b c d rest =
    append_assoc (join_with_byte 44 (codes "frame" ∷ a ∷ b ∷ c ∷ d ∷ [])) (10 ∷ []) rest
    ∙ ap (λ l. codes "frame," ++ l) (append_assoc a (44 ∷ (b ++ 44 ∷ (c ++ 44 ∷ d))) (10 ∷ rest)
    ∙ ap (λ l. a ++ 44 ∷ l) (append_assoc b (44 ∷ (c ++ 44 ∷ d)) (10 ∷ rest)
    ∙ ap (λ l. b ++ 44 ∷ l) (append_assoc c (44 ∷ d) (10 ∷ rest))))

pub open-text : (a b c rest : List ℕ) → (join_with_byte 44 (codes "open" ∷ a ∷ b ∷ c ∷ []) ++ 10 ∷ []) ++ rest
    ≡ codes "open," ++ (a ++ 44 ∷ (b ++ 44 ∷ (c ++ 10 ∷ rest)))
open-text a b c rest =
    append_assoc (join_with_byte 44 (codes "open" ∷ a ∷ b ∷ c ∷ [])) (10 ∷ []) rest
    ∙ ap (λ l. codes "open," ++ l) (append_assoc a (44 ∷ (b ++ 44 ∷ c)) (10 ∷ rest)
    ∙ ap (λ l. a ++ 44 ∷ l) (append_assoc b (44 ∷ c) (10 ∷ rest)))

pub plan-text : (a b rest : List ℕ) → (join_with_byte 44 (codes "plan" ∷ a ∷ b ∷ []) ++ 10 ∷ []) ++ rest
    ≡ codes "plan," ++ (a ++ 44 ∷ (b ++ 10 ∷ rest))
plan-text a b rest =
    append_assoc (join_with_byte 44 (codes "plan" ∷ a ∷ b ∷ [])) (10 ∷ []) rest
    ∙ ap (λ l. codes "plan," ++ l) (append_assoc a (44 ∷ b) (10 ∷ rest))

-- what the parts of a row say, each behind the one before it
abbrev pub IsNumberBehind : ℕ → ℕ → List ℕ → List ℕ → Type 0
IsNumberBehind most byte bytes rest = (n : ℕ) × (n < 10 ^ most) × (bytes ≡ decimal n ++ byte ∷ rest)

abbrev pub IsIdentifierBehind : List ℕ → List ℕ → Type 0
IsIdentifierBehind bytes rest = (id : ℕ) × (id ≤ 0x7EF) × (bytes ≡ hex_digits 3 id ++ 44 ∷ rest)

abbrev pub IsDataBehind : List ℕ → List ℕ → Type 0
IsDataBehind bytes rest =
    (content : List ℕ) × (length content ≤ 8) × All (λ byte. byte < 256) content × (bytes ≡ flat_map (hex_digits 2) content ++ 10 ∷ rest)

abbrev pub IsMaskBehind : ℕ → List ℕ → List ℕ → Type 0
IsMaskBehind byte bytes rest = (mask : ℕ) × (mask < 2 ^ 96) × (bytes ≡ mask_digits mask ++ byte ∷ rest)

-- what follows the start in the row of a frame, part by part
pub body-of : (bytes id later rest : List ℕ) → IsNumberBehind 9 44 bytes id → IsIdentifierBehind id later → IsDataBehind later rest
    → BeginsWithBody bytes rest
body-of bytes id later rest (len, short, one) (identifier, named, two) (content, few, each, three) = record {
  len = len;
  short = short;
  identifier = identifier;
  named = named;
  content = content;
  few = few;
  each = each;
  written = one ∙ ap (λ l. decimal len ++ 44 ∷ l) (two ∙ ap (λ l. hex_digits 3 identifier ++ 44 ∷ l) three);
}

-- the same of bytes that are known one by one
pub body-full : (bytes : List ℕ) → 25 ≤ length bytes → 49 ≤ get_or bytes 0 0
    → ((i : ℕ) → i < 3 → is_ascii_digit (get_or bytes i 0) ≡ true) → get_or bytes 3 0 ≡ 44
    → 48 ≤ get_or bytes 4 0 → get_or bytes 4 0 ≤ 54 → ((i : ℕ) → 5 ≤ i → i < 7 → is_hex_digit (get_or bytes i 0) ≡ true)
    → get_or bytes 7 0 ≡ 44 → ((i : ℕ) → 8 ≤ i → i < 24 → is_hex_digit (get_or bytes i 0) ≡ true) → get_or bytes 24 0 ≡ 10
    → BeginsWithBody bytes (drop 25 bytes)
body-full bytes enough first digits comma least most later second each feed =
    let id = drop 4 bytes in
    let after = drop 8 bytes in
    let behind_len : drop 3 bytes ≡ 44 ∷ id = drop-cons bytes 3 0 (omega (arith, enough)) ∙ ap (λ b. b ∷ id) comma in
    let behind_id : drop 3 id ≡ 44 ∷ after =
    drop-drop 3 4 bytes ∙ drop-cons bytes 7 0 (omega (arith, enough)) ∙ ap (λ b. b ∷ after) second in
    let behind_data : drop 16 after ≡ 10 ∷ drop 25 bytes =
    drop-drop 16 8 bytes ∙ drop-cons bytes 24 0 (omega (arith, enough)) ∙ ap (λ b. b ∷ drop 25 bytes) feed in
    let size = length-drop 4 bytes in
    let more = length-drop 8 bytes in
    let high = get_or-drop 4 bytes 0 0 in
    let run : ℕ = 3 in
    let no_zero : get_or bytes 0 0 ≡ 48 → run ≡ 1 = λ zero. absurd (omega (arith, first, zero)) in
    let not_last : get_or id 0 0 ≡ 55 → get_or id 1 0 < 102 = λ seven. absurd (omega (arith, most, high, seven)) in
    body-of bytes id after (drop 25 bytes)
    (number-behind bytes 3 (omega (arith, enough)) (omega arith) 9 44 id (omega arith) (omega arith) (omega arith) no_zero digits behind_len)
    (identifier-behind id after (omega (arith, enough, size)) (omega (arith, least, high)) (omega (arith, most, high))
    (ap is_hex_digit (get_or-drop 4 bytes 1 0) ∙ later 5 (omega arith) (omega arith))
    (ap is_hex_digit (get_or-drop 4 bytes 2 0) ∙ later 6 (omega arith) (omega arith)) not_last behind_id)
    (data-behind after 16 (omega (arith, enough, more)) (omega arith) 10 (drop 25 bytes) refl
    (λ i before. ap is_hex_digit (get_or-drop 8 bytes i 0) ∙ each (8 + i) (omega arith) (omega (arith, before))) behind_data)

pub frame-row : (bytes body rest : List ℕ) → IsNumberBehind 16 44 bytes body → BeginsWithBody body rest
    → BeginsWithRow (codes "frame," ++ bytes) rest
frame-row bytes body rest (start, early, one) is = record {
  row = row.Frame (record { start = start; len = is.len; frame = record { identifier = is.identifier; bytes = is.content } });
  legal = (omega (arith, early), omega (arith, is.short), record { identifier = is.named; few = is.few; bytes = is.each });
  written = ap (λ l. codes "frame," ++ l) (one ∙ ap (λ l. decimal start ++ 44 ∷ l) is.written)
      ∙ sym (frame-text (decimal start) (decimal is.len) (hex_digits 3 is.identifier) (flat_map (hex_digits 2) is.content) rest);
}

pub frame-begun : (bytes body rest : List ℕ)
    → ((start : ℕ) × (start < 10 ^ 16) × (bytes ≡ codes "frame," ++ (decimal start ++ 44 ∷ body)))
    → BeginsWithBody body rest → BeginsWithRow bytes rest
frame-begun bytes body rest (start, early, one) is =
    subst (λ b. BeginsWithRow b rest) (sym one) (frame-row (decimal start ++ 44 ∷ body) body rest (start, early, refl) is)

pub open-row : (bytes slots length rest : List ℕ) → IsNumberBehind 16 44 bytes slots → IsMaskBehind 44 slots length
    → IsNumberBehind 9 10 length rest → BeginsWithRow (codes "open," ++ bytes) rest
open-row bytes slots length rest (cycle, early, one) (mask, wide, two) (width, short, three) = record {
  row = row.Open cycle mask width;
  legal = (omega (arith, early), wide, omega (arith, short));
  written = ap (λ x. codes "open," ++ x) (one ∙ ap (λ x. decimal cycle ++ 44 ∷ x) (two ∙ ap (λ x. mask_digits mask ++ 44 ∷ x) three))
      ∙ sym (open-text (decimal cycle) (mask_digits mask) (decimal width) rest);
}

pub plan-row : (bytes slots rest : List ℕ) → IsNumberBehind 16 44 bytes slots → IsMaskBehind 10 slots rest
    → BeginsWithRow (codes "plan," ++ bytes) rest
plan-row bytes slots rest (cycle, early, one) (mask, wide, two) = record {
  row = row.Plan cycle mask;
  legal = (omega (arith, early), wide);
  written = ap (λ x. codes "plan," ++ x) (one ∙ ap (λ x. decimal cycle ++ 44 ∷ x) two)
      ∙ sym (plan-text (decimal cycle) (mask_digits mask) rest);
}

-- the digits of any set, and the byte behind them
pub wide-mask-behind : (mask byte : ℕ) (bytes digits later rest : List ℕ) → mask < 2 ^ 96 → digits ≡ mask_digits mask
    → digits ++ later ≡ bytes → later ≡ byte ∷ rest → IsMaskBehind byte bytes rest
wide-mask-behind mask byte bytes digits later rest small are all is =
    (mask, small, sym all ∙ ap (λ l. digits ++ l) is ∙ ap (λ l. l ++ byte ∷ rest) are)
