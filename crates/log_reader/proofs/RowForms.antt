-- The row that fields have the form of: the reader finds it exactly where they are the fields that the writer gives it.
use Rattle.std.proofs.Common.{◌≡◌, ℕ, suc, ◌-◌, ◌^◌, ◌<◌, ◌≤◌, ◌&&◌, true, false, cond, ◌==◌, Bool, List, [], ◌∷◌, codes, length, slice_get, Option, Some, None, option_map, option_and_then, refl, sym, ap, ◌∙◌, subst, arith}
use Rattle.std.proofs.lemmas.Bool.{eqb-true}
use Rattle.std.proofs.lemmas.Option.{option_and_then_some, same_Some}
use Rattle.std.specs.Cmp.Lexicographic.{same_text}
use Rattle.std.specs.Fmt.{decimal}
use Rattle.std.specs.List.{flat_map}
use Rattle.std.specs.Str.{bytes_eq}
use Rattle.can_frame.specs.DataFrame.{DataFrame, IsFrame}
use Rattle.can_frame.specs.declared.data_frame.TimedFrame.{TimedFrame}
use Rattle.bit_sets.specs.Sets.{most_slots}
use Rattle.text_fields.specs.Hexadecimal.{hex_digits}
use Rattle.text_fields.specs.MaskText.{mask_digits}
use Rattle.log_reader.specs.Row.{IsLogRow, IsLogVerdict, fields_of_row, fields_of_verdict}
use Rattle.can_frame.specs.DataFrame.{frame_with}
use Rattle.log_reader.specs.RowFields.{accepted_of, end_of, frame_at, frame_of, hex_at, horizon_of, look_of, malformed_of, miss_of, decimal_at, open_of, passed_of, plan_of, row_by, row_of, slots_at, submit_of, two_numbers, until_of, verdict_by, verdict_of}
use Rattle.log_reader.specs.declared.row.LogRow.{LogRow}
use Rattle.log_reader.specs.declared.row.LogRow.TheVariants as row
use Rattle.log_reader.specs.declared.row.LogVerdict.{LogVerdict}
use Rattle.log_reader.specs.declared.row.LogVerdict.TheVariants as verdict
use Rattle.text_fields.specs.ByteText.{data_of}
use Rattle.text_fields.specs.Decimal.{decimal_of, within}
use Rattle.text_fields.specs.Hexadecimal.{hex_of}
use Rattle.text_fields.specs.MaskText.{mask_of}
use Rattle.text_fields.proofs.Shared.{data-read, data_of-data, decimal-read, decimal_of-decimal, digits-of_hex, digits-of_mask, hex_of-digits, if-some, mask_of-digits, within-found, within-is}

-- Choices

if-else : {A : Type 0} (P : Type 0) (b : Bool) (x y : Option A) (z : A) → cond b x y ≡ Some z → (b ≡ true → x ≡ Some z → P) → (y ≡ Some z → P) → P
if-else P true x y z is one other = one refl is
if-else P false x y z is one other = other is

word-is : (word expected : List ℕ) → bytes_eq word expected ≡ true → word ≡ expected
word-is word expected test = same_text word expected (sym test)

-- Lists by their places

-- these stand in a list from a place on
abbrev AllAt : List (List ℕ) → ℕ → List (List ℕ) → Type 0
AllAt xs i [] = Unit {0}
AllAt xs i (y ∷ ys) = (slice_get xs i ≡ Some y) × AllAt xs (suc i) ys

shift : (x : List ℕ) (xs : List (List ℕ)) (i : ℕ) (ys : List (List ℕ)) → AllAt (x ∷ xs) (suc i) ys → AllAt xs i ys
shift x xs i [] at = tt
shift x xs i (y ∷ ys) at = (at.0, shift x xs (suc i) ys at.1)

same-places : (xs ys : List (List ℕ)) → length xs ≡ length ys → AllAt xs 0 ys → xs ≡ ys
same-places [] [] size at = refl
same-places [] (y ∷ ys) size at = absurd (omega arith)
same-places (x ∷ xs) [] size at = absurd (omega arith)
same-places (x ∷ xs) (y ∷ ys) size at =
    let first : x ≡ y = same_Some x y at.0 in
    let rest = same-places xs ys (omega arith) (shift x xs 0 ys at.1) in
    cc

-- Fields

up_to-is : (most v n : ℕ) → within 0 most v ≡ Some n → (v ≡ n) × (n ≤ most)
up_to-is most v n read = let parts = within-is 0 most v n read in (parts.0, parts.2)

up_to-found : (most n : ℕ) → n ≤ most → within 0 most n ≡ Some n
up_to-found most n fits = within-found 0 most n (omega arith) fits

number-read : (fields : List (List ℕ)) (place most n : ℕ) → most < 2 ^ 64 → decimal_at fields place most ≡ Some n
    → (slice_get fields place ≡ Some (decimal n)) × (n ≤ most)
number-read fields place most n wide read =
    option_and_then_some (within 0 most) (option_and_then decimal_of (slice_get fields place)) n read (λ v found fits.
    let (same, below) = up_to-is most v n fits in
    option_and_then_some decimal_of (slice_get fields place) v found (λ field there writes.
    (there ∙ ap (λ f. Some f) (decimal-read field v writes (omega arith) ∙ ap decimal same), below)))

number-found : (fields : List (List ℕ)) (place most n : ℕ) → most < 2 ^ 64 → n ≤ most → slice_get fields place ≡ Some (decimal n)
    → decimal_at fields place most ≡ Some n
number-found fields place most n wide below there =
    ap (λ f. option_and_then (within 0 most) (option_and_then decimal_of f)) there
    ∙ ap (option_and_then (within 0 most)) (decimal_of-decimal n (omega arith))
    ∙ up_to-found most n below

hex-read : (fields : List (List ℕ)) (place count n : ℕ) → hex_at fields place count ≡ Some n
    → (slice_get fields place ≡ Some (hex_digits count n)) × (n < 16 ^ count)
hex-read fields place count n read =
    option_and_then_some (hex_of count) (slice_get fields place) n read (λ field there writes.
    let (is, small) = digits-of_hex count field n writes in
    (there ∙ ap (λ f. Some f) is, small))

hex-found : (fields : List (List ℕ)) (place count n : ℕ) → n < 16 ^ count → slice_get fields place ≡ Some (hex_digits count n)
    → hex_at fields place count ≡ Some n
hex-found fields place count n small there = ap (option_and_then (hex_of count)) there ∙ hex_of-digits count n small

slots-read : (fields : List (List ℕ)) (place mask : ℕ) → slots_at fields place ≡ Some mask
    → (slice_get fields place ≡ Some (mask_digits mask)) × (mask < 2 ^ most_slots)
slots-read fields place mask read =
    option_and_then_some mask_of (slice_get fields place) mask read (λ field there writes.
    let (is, small) = digits-of_mask field mask writes in
    (there ∙ ap (λ f. Some f) is, small))

slots-found : (fields : List (List ℕ)) (place mask : ℕ) → mask < 2 ^ most_slots → slice_get fields place ≡ Some (mask_digits mask)
    → slots_at fields place ≡ Some mask
slots-found fields place mask small there = ap (option_and_then mask_of) there ∙ mask_of-digits mask small

-- what a frame's fields say
record IsFrameAt (fields : List (List ℕ)) (frame : DataFrame) : Type 0 where
  pub legal : IsFrame frame
  pub identifier : slice_get fields 3 ≡ Some (hex_digits 3 frame.identifier)
  pub bytes : slice_get fields 4 ≡ Some (flat_map (hex_digits 2) frame.bytes)

frame-read : (fields : List (List ℕ)) (frame : DataFrame) → frame_at fields ≡ Some frame → IsFrameAt fields frame
frame-read fields frame read =
    option_and_then_some _ (option_and_then (within 0 0x7EF) (hex_at fields 3 3)) frame read (λ id found rest.
    option_and_then_some _ (option_and_then data_of (slice_get fields 4)) frame rest (λ bytes second made.
    option_and_then_some (within 0 0x7EF) (hex_at fields 3 3) id found (λ v digits fits.
    option_and_then_some data_of (slice_get fields 4) bytes second (λ field there writes.
    let (same, below) = up_to-is 0x7EF v id fits in
    let (first, small) = hex-read fields 3 3 v digits in
    let (digits_are, few, all) = data-read field bytes writes in
    subst (IsFrameAt fields) (same_Some (frame_with id bytes) frame made) (record {
      legal = record { identifier = below; few = few; bytes = all };
      identifier = first ∙ ap (λ n. Some (hex_digits 3 n)) same;
      bytes = there ∙ ap (λ f. Some f) digits_are;
    })))))

frame-found : (fields : List (List ℕ)) (frame : DataFrame) → IsFrameAt fields frame → frame_at fields ≡ Some frame
frame-found fields frame is =
    let below = is.legal.identifier in
    let id : option_and_then (within 0 0x7EF) (hex_at fields 3 3) ≡ Some frame.identifier =
    ap (option_and_then (within 0 0x7EF)) (hex-found fields 3 3 frame.identifier (omega arith) is.identifier) ∙ up_to-found 0x7EF frame.identifier below in
    let written : option_and_then data_of (slice_get fields 4) ≡ Some frame.bytes =
    ap (option_and_then data_of) is.bytes ∙ data_of-data frame.bytes is.legal.bytes is.legal.few in
    rw (id, written)

-- Verdicts

-- the fields are these three, and then those of the verdict
record IsSaid (fields : List (List ℕ)) (a b c : List ℕ) (said : LogVerdict) : Type 0 where
  pub legal : IsLogVerdict said
  pub is : fields ≡ a ∷ b ∷ c ∷ fields_of_verdict said

module _ (fields : List (List ℕ)) (a b c : List ℕ)
    (at_a : slice_get fields 0 ≡ Some a) (at_b : slice_get fields 1 ≡ Some b) (at_c : slice_get fields 2 ≡ Some c) where
  size-is : (count : ℕ) → (length fields == count) ≡ true → length fields ≡ count
  size-is count test = eqb-true (length fields) count test

  -- a verdict that says two numbers behind its word
  two-read : (say : ℕ → ℕ → LogVerdict) (word : List ℕ) (said : LogVerdict) → slice_get fields 3 ≡ Some word
      → ((x y : ℕ) → fields_of_verdict (say x y) ≡ word ∷ decimal x ∷ decimal y ∷ [])
      → ((x y : ℕ) → x < 2 ^ 64 → y < 2 ^ 64 → IsLogVerdict (say x y))
      → option_and_then (λ both. Some (say both.0 both.1)) (two_numbers fields) ≡ Some said → IsSaid fields a b c said
  two-read say word said at_word writes ranges read =
      option_and_then_some _ (two_numbers fields) said read (λ both two made.
      let (count, rest) = if-some (length fields == 6) _ both two in
      option_and_then_some _ (decimal_at fields 4 (2 ^ 64 - 1)) both rest (λ x one more.
      option_and_then_some _ (decimal_at fields 5 (2 ^ 64 - 1)) both more (λ y other pair.
      let first = number-read fields 4 (2 ^ 64 - 1) x (omega arith) one in
      let second = number-read fields 5 (2 ^ 64 - 1) y (omega arith) other in
      let is = same-places fields (a ∷ b ∷ c ∷ word ∷ decimal x ∷ decimal y ∷ []) (size-is 6 count) (at_a, (at_b, (at_c, (at_word, (first.0, (second.0, tt)))))) in
      subst (IsSaid fields a b c) (ap (λ p. say p.0 p.1) (same_Some (x, y) both pair) ∙ same_Some (say both.0 both.1) said made) (record {
        legal = ranges x y (omega (arith, first.1)) (omega (arith, second.1));
        is = is ∙ ap (λ l. a ∷ b ∷ c ∷ l) (sym (writes x y));
      }))))

  miss-read : (said : LogVerdict) → slice_get fields 3 ≡ Some (codes "miss") → miss_of fields ≡ Some said → IsSaid fields a b c said
  miss-read said word read =
      let (count, rest) = if-some (length fields == 7) _ said read in
      option_and_then_some _ (decimal_at fields 4 255) said rest (λ slot one more.
      option_and_then_some _ (decimal_at fields 5 (2 ^ 64 - 1)) said more (λ release two others.
      option_and_then_some _ (decimal_at fields 6 (2 ^ 64 - 1)) said others (λ cycle three made.
      let x = number-read fields 4 255 slot (omega arith) one in
      let y = number-read fields 5 (2 ^ 64 - 1) release (omega arith) two in
      let z = number-read fields 6 (2 ^ 64 - 1) cycle (omega arith) three in
      subst (IsSaid fields a b c) (same_Some (verdict.Miss slot release cycle) said made) (record {
        legal = (omega (arith, x.1), omega (arith, y.1), omega (arith, z.1));
        is = same-places fields _ (size-is 7 count) (at_a, (at_b, (at_c, (word, (x.0, (y.0, (z.0, tt)))))));
      }))))

  until-read : (P : Type 0) (why : ℕ) (until : Option ℕ) → until_of fields why ≡ Some until
      → (length fields ≡ 6 → None ≡ until → P)
      → ((n : ℕ) → length fields ≡ 7 → why ≡ 10 → Some n ≡ until → decimal_at fields 6 (2 ^ 64 - 1) ≡ Some n → P) → P
  until-read P why until read none some =
      by (length fields == 6) (length fields == 7) (why == 10) (decimal_at fields 6 (2 ^ 64 - 1)) refl refl refl refl read
    where
      by : (six seven ten : Bool) (o : Option ℕ) → (length fields == 6) ≡ six → (length fields == 7) ≡ seven → (why == 10) ≡ ten
          → decimal_at fields 6 (2 ^ 64 - 1) ≡ o
          → cond six (Some None) (cond (seven && ten) (option_map (λ n. Some n) o) None) ≡ Some until → P
      by true seven ten o s e t r is = none (eqb-true (length fields) 6 s) (same_Some None until is)
      by false true true (Some n) s e t r is = some n (eqb-true (length fields) 7 e) (eqb-true why 10 t) (same_Some (Some n) until is) r
      by false true true None s e t r is = absurd (cc)
      by false true false o s e t r is = absurd (cc)
      by false false ten o s e t r is = absurd (cc)

  malformed-read : (said : LogVerdict) → slice_get fields 3 ≡ Some (codes "malformed") → malformed_of fields ≡ Some said → IsSaid fields a b c said
  malformed-read said word read =
      option_and_then_some _ (decimal_at fields 4 255) said read (λ op one more.
      option_and_then_some _ (decimal_at fields 5 255) said more (λ why two others.
      option_and_then_some _ (until_of fields why) said others (λ until three made.
      let x = number-read fields 4 255 op (omega arith) one in
      let y = number-read fields 5 255 why (omega arith) two in
      subst (IsSaid fields a b c) (same_Some (verdict.Malformed op why until) said made)
      (until-read (IsSaid fields a b c (verdict.Malformed op why until)) why until three
      (λ count none. subst (λ u. IsSaid fields a b c (verdict.Malformed op why u)) none (record {
        legal = (omega (arith, x.1), omega (arith, y.1), tt);
        is = same-places fields _ count (at_a, (at_b, (at_c, (word, (x.0, (y.0, tt))))));
      }))
      (λ n count ten some found.
      let z = number-read fields 6 (2 ^ 64 - 1) n (omega arith) found in
      subst (λ u. IsSaid fields a b c (verdict.Malformed op why u)) some (record {
        legal = (omega (arith, x.1), omega (arith, y.1), (omega (arith, z.1), ten));
        is = same-places fields _ count (at_a, (at_b, (at_c, (word, (x.0, (y.0, (z.0, tt)))))));
      }))))))

  verdict-read : (said : LogVerdict) → verdict_of fields ≡ Some said → IsSaid fields a b c said
  unfolding verdict_of
  verdict-read said read =
      let P = IsSaid fields a b c said in
      option_and_then_some (verdict_by fields) (slice_get fields 3) said read (λ word there by.
      let at : (expected : List ℕ) → bytes_eq word expected ≡ true → slice_get fields 3 ≡ Some expected =
      λ expected test. there ∙ ap (λ w. Some w) (word-is word expected test) in
      if-else P (bytes_eq word (codes "accepted")) (accepted_of fields) _ said by (λ test. two-read verdict.Accepted (codes "accepted") said (at _ test) (λ x y. refl) (λ x y first second. (first, second)))
      (λ by. if-else P (bytes_eq word (codes "malformed")) (malformed_of fields) _ said by (λ test. malformed-read said (at _ test))
      (λ by. if-else P (bytes_eq word (codes "passed")) (passed_of fields) _ said by (λ test. two-read verdict.Passed (codes "passed") said (at _ test) (λ x y. refl) (λ x y first second. (first, second)))
      (λ by. if-else P (bytes_eq word (codes "miss")) (miss_of fields) _ said by (λ test. miss-read said (at _ test))
      (λ by. if-else P (bytes_eq word (codes "horizon")) (horizon_of fields) None said by (λ test. two-read verdict.Horizon (codes "horizon") said (at _ test) (λ x y. refl) (λ x y first second. (first, second)))
      (λ by. absurd (let none : ⊥ = cc in none)))))))

-- Rows

-- these fields have the form of the row
pub record HasForm (fields : List (List ℕ)) (read : LogRow) : Type 0 where
  pub legal : IsLogRow read
  pub is : fields ≡ fields_of_row read

module _ (fields : List (List ℕ)) where
  submit-read : (read : LogRow) → slice_get fields 0 ≡ Some (codes "submit") → submit_of fields ≡ Some read → HasForm fields read
  submit-read read word found =
      option_and_then_some _ (decimal_at fields 1 255) read found (λ caller one more.
      option_and_then_some _ (decimal_at fields 2 (2 ^ 64 - 1)) read more (λ from two others.
      option_and_then_some _ (verdict_of fields) read others (λ said three made.
      let x = number-read fields 1 255 caller (omega arith) one in
      let y = number-read fields 2 (2 ^ 64 - 1) from (omega arith) two in
      let z = verdict-read fields (codes "submit") (decimal caller) (decimal from) word x.0 y.0 said three in
      subst (HasForm fields) (same_Some (row.Submit caller from said) read made) (record {
        legal = (omega (arith, x.1), omega (arith, y.1), z.legal);
        is = z.is;
      }))))

  plan-read : (read : LogRow) → slice_get fields 0 ≡ Some (codes "plan") → plan_of fields ≡ Some read → HasForm fields read
  plan-read read word found =
      let (count, rest) = if-some (length fields == 3) _ read found in
      option_and_then_some _ (decimal_at fields 1 (2 ^ 64 - 1)) read rest (λ cycle one more.
      option_and_then_some _ (slots_at fields 2) read more (λ mask two made.
      let x = number-read fields 1 (2 ^ 64 - 1) cycle (omega arith) one in
      let y = slots-read fields 2 mask two in
      subst (HasForm fields) (same_Some (row.Plan cycle mask) read made) (record {
        legal = (omega (arith, x.1), omega (arith, y.1));
        is = same-places fields _ (eqb-true (length fields) 3 count) (word, (x.0, (y.0, tt)));
      })))

  look-read : (read : LogRow) → slice_get fields 0 ≡ Some (codes "look") → look_of fields ≡ Some read → HasForm fields read
  look-read read word found =
      let (count, rest) = if-some (length fields == 3) _ read found in
      option_and_then_some _ (decimal_at fields 1 255) read rest (λ caller one more.
      option_and_then_some _ (decimal_at fields 2 (2 ^ 64 - 1)) read more (λ next two made.
      let x = number-read fields 1 255 caller (omega arith) one in
      let y = number-read fields 2 (2 ^ 64 - 1) next (omega arith) two in
      subst (HasForm fields) (same_Some (row.Look caller next) read made) (record {
        legal = (omega (arith, x.1), omega (arith, y.1));
        is = same-places fields _ (eqb-true (length fields) 3 count) (word, (x.0, (y.0, tt)));
      })))

  open-read : (read : LogRow) → slice_get fields 0 ≡ Some (codes "open") → open_of fields ≡ Some read → HasForm fields read
  open-read read word found =
      let (count, rest) = if-some (length fields == 4) _ read found in
      option_and_then_some _ (decimal_at fields 1 (2 ^ 64 - 1)) read rest (λ cycle one more.
      option_and_then_some _ (slots_at fields 2) read more (λ mask two others.
      option_and_then_some _ (decimal_at fields 3 (2 ^ 32 - 1)) read others (λ width three made.
      let x = number-read fields 1 (2 ^ 64 - 1) cycle (omega arith) one in
      let y = slots-read fields 2 mask two in
      let z = number-read fields 3 (2 ^ 32 - 1) width (omega arith) three in
      subst (HasForm fields) (same_Some (row.Open cycle mask width) read made) (record {
        legal = (omega (arith, x.1), omega (arith, y.1), omega (arith, z.1));
        is = same-places fields _ (eqb-true (length fields) 4 count) (word, (x.0, (y.0, (z.0, tt))));
      }))))

  frame_row-read : (read : LogRow) → slice_get fields 0 ≡ Some (codes "frame") → frame_of fields ≡ Some read → HasForm fields read
  frame_row-read read word found =
      let (count, rest) = if-some (length fields == 5) _ read found in
      option_and_then_some _ (decimal_at fields 1 (2 ^ 64 - 1)) read rest (λ start one more.
      option_and_then_some _ (decimal_at fields 2 (2 ^ 32 - 1)) read more (λ len two others.
      option_and_then_some _ (frame_at fields) read others (λ frame three made.
      let x = number-read fields 1 (2 ^ 64 - 1) start (omega arith) one in
      let y = number-read fields 2 (2 ^ 32 - 1) len (omega arith) two in
      let z = frame-read fields frame three in
      subst (HasForm fields) (same_Some (row.Frame (record { start = start; len = len; frame = frame })) read made) (record {
        legal = (omega (arith, x.1), omega (arith, y.1), z.legal);
        is = same-places fields _ (eqb-true (length fields) 5 count) (word, (x.0, (y.0, (z.identifier, (z.bytes, tt)))));
      }))))

  end-read : (read : LogRow) → slice_get fields 0 ≡ Some (codes "end") → end_of fields ≡ Some read → HasForm fields read
  end-read read word found =
      let (count, rest) = if-some (length fields == 2) _ read found in
      option_and_then_some _ (decimal_at fields 1 (2 ^ 64 - 1)) read rest (λ next one made.
      let x = number-read fields 1 (2 ^ 64 - 1) next (omega arith) one in
      subst (HasForm fields) (same_Some (row.End next) read made) (record {
        legal = omega (arith, x.1);
        is = same-places fields _ (eqb-true (length fields) 2 count) (word, (x.0, tt));
      }))

  -- what the reader finds has the form
  pub row-read : (read : LogRow) → row_of fields ≡ Some read → HasForm fields read
  unfolding row_of
  row-read read found =
      let P = HasForm fields read in
      option_and_then_some (row_by fields) (slice_get fields 0) read found (λ word there by.
      let at : (expected : List ℕ) → bytes_eq word expected ≡ true → slice_get fields 0 ≡ Some expected =
      λ expected test. there ∙ ap (λ w. Some w) (word-is word expected test) in
      if-else P (bytes_eq word (codes "submit")) (submit_of fields) _ read by (λ test. submit-read read (at _ test))
      (λ by. if-else P (bytes_eq word (codes "plan")) (plan_of fields) _ read by (λ test. plan-read read (at _ test))
      (λ by. if-else P (bytes_eq word (codes "look")) (look_of fields) _ read by (λ test. look-read read (at _ test))
      (λ by. if-else P (bytes_eq word (codes "open")) (open_of fields) _ read by (λ test. open-read read (at _ test))
      (λ by. if-else P (bytes_eq word (codes "frame")) (frame_of fields) _ read by (λ test. frame_row-read read (at _ test))
      (λ by. if-else P (bytes_eq word (codes "end")) (end_of fields) None read by (λ test. end-read read (at _ test))
      (λ by. absurd (let none : ⊥ = cc in none))))))))

-- What is found where the parts of a row are

module _ (fields : List (List ℕ)) where
  accepted-said : (first len : ℕ) → slice_get fields 3 ≡ Some (codes "accepted") → (length fields == 6) ≡ true
      → decimal_at fields 4 (2 ^ 64 - 1) ≡ Some first → decimal_at fields 5 (2 ^ 64 - 1) ≡ Some len → verdict_of fields ≡ Some (verdict.Accepted first len)
  unfolding verdict_of
  accepted-said first len word count one two = rw (word, count, one, two)

  passed-said : (start next : ℕ) → slice_get fields 3 ≡ Some (codes "passed") → (length fields == 6) ≡ true
      → decimal_at fields 4 (2 ^ 64 - 1) ≡ Some start → decimal_at fields 5 (2 ^ 64 - 1) ≡ Some next → verdict_of fields ≡ Some (verdict.Passed start next)
  unfolding verdict_of
  passed-said start next word count one two = rw (word, count, one, two)

  horizon-said : (from walked : ℕ) → slice_get fields 3 ≡ Some (codes "horizon") → (length fields == 6) ≡ true
      → decimal_at fields 4 (2 ^ 64 - 1) ≡ Some from → decimal_at fields 5 (2 ^ 64 - 1) ≡ Some walked → verdict_of fields ≡ Some (verdict.Horizon from walked)
  unfolding verdict_of
  horizon-said from walked word count one two = rw (word, count, one, two)

  miss-said : (slot release cycle : ℕ) → slice_get fields 3 ≡ Some (codes "miss") → (length fields == 7) ≡ true
      → decimal_at fields 4 255 ≡ Some slot → decimal_at fields 5 (2 ^ 64 - 1) ≡ Some release → decimal_at fields 6 (2 ^ 64 - 1) ≡ Some cycle
      → verdict_of fields ≡ Some (verdict.Miss slot release cycle)
  unfolding verdict_of
  miss-said slot release cycle word count one two three = rw (word, count, one, two, three)

  malformed-said : (op why : ℕ) (until : Option ℕ) → slice_get fields 3 ≡ Some (codes "malformed")
      → decimal_at fields 4 255 ≡ Some op → decimal_at fields 5 255 ≡ Some why → until_of fields why ≡ Some until
      → verdict_of fields ≡ Some (verdict.Malformed op why until)
  unfolding verdict_of
  malformed-said op why until word one two three = rw (word, one, two, three)

  submit-said : (caller from : ℕ) (said : LogVerdict) → slice_get fields 0 ≡ Some (codes "submit")
      → decimal_at fields 1 255 ≡ Some caller → decimal_at fields 2 (2 ^ 64 - 1) ≡ Some from → verdict_of fields ≡ Some said
      → row_of fields ≡ Some (row.Submit caller from said)
  unfolding row_of
  submit-said caller from said word one two three = rw (word, one, two, three)

  plan-said : (cycle mask : ℕ) → slice_get fields 0 ≡ Some (codes "plan") → (length fields == 3) ≡ true
      → decimal_at fields 1 (2 ^ 64 - 1) ≡ Some cycle → slots_at fields 2 ≡ Some mask → row_of fields ≡ Some (row.Plan cycle mask)
  unfolding row_of
  plan-said cycle mask word count one two = rw (word, count, one, two)

  look-said : (caller next : ℕ) → slice_get fields 0 ≡ Some (codes "look") → (length fields == 3) ≡ true
      → decimal_at fields 1 255 ≡ Some caller → decimal_at fields 2 (2 ^ 64 - 1) ≡ Some next → row_of fields ≡ Some (row.Look caller next)
  unfolding row_of
  look-said caller next word count one two = rw (word, count, one, two)

  open-said : (cycle mask l : ℕ) → slice_get fields 0 ≡ Some (codes "open") → (length fields == 4) ≡ true
      → decimal_at fields 1 (2 ^ 64 - 1) ≡ Some cycle → slots_at fields 2 ≡ Some mask
      → decimal_at fields 3 (2 ^ 32 - 1) ≡ Some l → row_of fields ≡ Some (row.Open cycle mask l)
  unfolding row_of
  open-said cycle mask l word count one two three = rw (word, count, one, two, three)

  frame-said : (timed : TimedFrame) → slice_get fields 0 ≡ Some (codes "frame") → (length fields == 5) ≡ true
      → decimal_at fields 1 (2 ^ 64 - 1) ≡ Some timed.start → decimal_at fields 2 (2 ^ 32 - 1) ≡ Some timed.len → frame_at fields ≡ Some timed.frame
      → row_of fields ≡ Some (row.Frame timed)
  unfolding row_of
  frame-said timed word count one two three = rw (word, count, one, two, three)

  end-said : (next : ℕ) → slice_get fields 0 ≡ Some (codes "end") → (length fields == 2) ≡ true
      → decimal_at fields 1 (2 ^ 64 - 1) ≡ Some next → row_of fields ≡ Some (row.End next)
  unfolding row_of
  end-said next word count one = rw (word, count, one)

-- the verdict behind three fields
verdict-found : (a b c : List ℕ) (said : LogVerdict) → IsLogVerdict said → verdict_of (a ∷ b ∷ c ∷ fields_of_verdict said) ≡ Some said
verdict-found a b c (verdict.Accepted first len) legal =
    let fields = a ∷ b ∷ c ∷ fields_of_verdict (verdict.Accepted first len) in
    accepted-said fields first len refl refl
    (number-found fields 4 (2 ^ 64 - 1) first (omega arith) (omega (arith, legal.0)) refl)
    (number-found fields 5 (2 ^ 64 - 1) len (omega arith) (omega (arith, legal.1)) refl)
verdict-found a b c (verdict.Passed start next) legal =
    let fields = a ∷ b ∷ c ∷ fields_of_verdict (verdict.Passed start next) in
    passed-said fields start next refl refl
    (number-found fields 4 (2 ^ 64 - 1) start (omega arith) (omega (arith, legal.0)) refl)
    (number-found fields 5 (2 ^ 64 - 1) next (omega arith) (omega (arith, legal.1)) refl)
verdict-found a b c (verdict.Horizon from walked) legal =
    let fields = a ∷ b ∷ c ∷ fields_of_verdict (verdict.Horizon from walked) in
    horizon-said fields from walked refl refl
    (number-found fields 4 (2 ^ 64 - 1) from (omega arith) (omega (arith, legal.0)) refl)
    (number-found fields 5 (2 ^ 64 - 1) walked (omega arith) (omega (arith, legal.1)) refl)
verdict-found a b c (verdict.Miss slot release cycle) legal =
    let fields = a ∷ b ∷ c ∷ fields_of_verdict (verdict.Miss slot release cycle) in
    miss-said fields slot release cycle refl refl
    (number-found fields 4 255 slot (omega arith) (omega (arith, legal.0)) refl)
    (number-found fields 5 (2 ^ 64 - 1) release (omega arith) (omega (arith, legal.1)) refl)
    (number-found fields 6 (2 ^ 64 - 1) cycle (omega arith) (omega (arith, legal.2)) refl)
verdict-found a b c (verdict.Malformed op why None) legal =
    let fields = a ∷ b ∷ c ∷ fields_of_verdict (verdict.Malformed op why None) in
    malformed-said fields op why None refl
    (number-found fields 4 255 op (omega arith) (omega (arith, legal.0)) refl)
    (number-found fields 5 255 why (omega arith) (omega (arith, legal.1)) refl)
    refl
verdict-found a b c (verdict.Malformed op why (Some until)) legal =
    let ten : why ≡ 10 = legal.2.1 in
    let is : (why == 10) ≡ true = rw ten refl in
    let fields = a ∷ b ∷ c ∷ fields_of_verdict (verdict.Malformed op why (Some until)) in
    let number : decimal_at fields 6 (2 ^ 64 - 1) ≡ Some until = number-found fields 6 (2 ^ 64 - 1) until (omega arith) (omega (arith, legal.2.0)) refl in
    malformed-said fields op why (Some until) refl
    (number-found fields 4 255 op (omega arith) (omega (arith, legal.0)) refl)
    (number-found fields 5 255 why (omega arith) (omega (arith, legal.1)) refl)
    (ap (λ ten. cond ten (option_map (λ n. Some n) (decimal_at fields 6 (2 ^ 64 - 1))) None) is ∙ ap (option_map (λ n. Some n)) number)

-- the reader finds the row that the fields are written of
pub row-found : (read : LogRow) → IsLogRow read → row_of (fields_of_row read) ≡ Some read
row-found (row.Submit caller from said) legal =
    let fields = fields_of_row (row.Submit caller from said) in
    submit-said fields caller from said refl
    (number-found fields 1 255 caller (omega arith) (omega (arith, legal.0)) refl)
    (number-found fields 2 (2 ^ 64 - 1) from (omega arith) (omega (arith, legal.1)) refl)
    (verdict-found (codes "submit") (decimal caller) (decimal from) said legal.2)
row-found (row.Plan cycle mask) legal =
    let fields = fields_of_row (row.Plan cycle mask) in
    plan-said fields cycle mask refl refl
    (number-found fields 1 (2 ^ 64 - 1) cycle (omega arith) (omega (arith, legal.0)) refl)
    (slots-found fields 2 mask (omega (arith, legal.1)) refl)
row-found (row.Look caller next) legal =
    let fields = fields_of_row (row.Look caller next) in
    look-said fields caller next refl refl
    (number-found fields 1 255 caller (omega arith) (omega (arith, legal.0)) refl)
    (number-found fields 2 (2 ^ 64 - 1) next (omega arith) (omega (arith, legal.1)) refl)
row-found (row.Open cycle mask l) legal =
    let fields = fields_of_row (row.Open cycle mask l) in
    open-said fields cycle mask l refl refl
    (number-found fields 1 (2 ^ 64 - 1) cycle (omega arith) (omega (arith, legal.0)) refl)
    (slots-found fields 2 mask (omega (arith, legal.1)) refl)
    (number-found fields 3 (2 ^ 32 - 1) l (omega arith) (omega (arith, legal.2)) refl)
row-found (row.Frame timed) legal =
    let fields = fields_of_row (row.Frame timed) in
    frame-said fields timed refl refl
    (number-found fields 1 (2 ^ 64 - 1) timed.start (omega arith) (omega (arith, legal.0)) refl)
    (number-found fields 2 (2 ^ 32 - 1) timed.len (omega arith) (omega (arith, legal.1)) refl)
    (frame-found fields timed.frame (record { legal = legal.2; identifier = refl; bytes = refl }))
row-found (row.End next) legal =
    let fields = fields_of_row (row.End next) in
    end-said fields next refl refl
    (number-found fields 1 (2 ^ 64 - 1) next (omega arith) (omega (arith, legal)) refl)
