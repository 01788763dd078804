-- The rows of a text.
use Rattle.std.proofs.Common.{◌≤◌, ◌≡◌, ◌≢◌, ◌∙◌, ◌+◌, ◌-◌, ◌<◌, ◌==◌, ℕ, zero, suc, Bool, true, false, refl, sym, ap, arith, Some, if◌then◌else◌, subst, List, [], ◌∷◌, ◌++◌, length, take, drop, get_or, eqb-true, append-nil, append_assoc}
use Rattle.std.specs.List.{concat}
use Rattle.std.proofs.lemmas.List.Sums.{fold-append}
use Rattle.std.proofs.lemmas.List.{length-append, length-drop, length-take-le, take-append-drop}
use Rattle.std.proofs.Math.Seq.{drop-append-add}
use Rattle.circular_buffer.specs.Buffer.{keep_last}
use Rattle.bus_trace.specs.LastRows.{AreRows, IsTailOf, begun_by, last_byte, last_rows, rows_in}
use Rattle.bus_trace.proofs.RowEnds.{rows-append}

-- no line feed stands below the place
abbrev pub NoFeedBelow : ℕ → List ℕ → Type 0
NoFeedBelow place text = (k : ℕ) → k < place → get_or text k 0 ≢ 10

no_feed : (byte : ℕ) → byte ≢ 10 → (byte == 10) ≡ false
no_feed byte not = go (byte == 10) refl
  where
    go : (b : Bool) → (byte == 10) ≡ b → (byte == 10) ≡ false
    go true is = absurd (not (eqb-true byte 10 is))
    go false is = is

-- a row that goes on
row_goes_by : (byte : ℕ) (rest : List ℕ) → (byte == 10) ≡ false → rows_in (byte ∷ rest) ≡ begun_by byte (rows_in rest)
unfolding rows_in
row_goes_by byte rest not = rw not refl

row_goes_on : (byte : ℕ) (rest : List ℕ) → byte ≢ 10 → rows_in (byte ∷ rest) ≡ begun_by byte (rows_in rest)
row_goes_on byte rest not = row_goes_by byte rest (no_feed byte not)

-- a row that is a line feed alone
row_ends : (byte : ℕ) (rest : List ℕ) → byte ≡ 10 → rows_in (byte ∷ rest) ≡ (byte ∷ []) ∷ rows_in rest
unfolding rows_in
row_ends byte rest is = rw is refl

no_rows : rows_in [] ≡ []
unfolding rows_in
no_rows = refl

-- a text begins with its first row, up to its first line feed
pub first_row : (text : List ℕ) (place : ℕ) → place < length text → get_or text place 0 ≡ 10 → NoFeedBelow place text
    → rows_in text ≡ take (suc place) text ∷ rows_in (drop (suc place) text)
first_row [] place lt feed none = absurd (omega arith)
first_row (byte ∷ rest) zero lt feed none = row_ends byte rest feed
first_row (byte ∷ rest) (suc place) lt feed none =
    let later = first_row rest place (omega arith) feed (λ k below. none (suc k) (omega arith)) in
    row_goes_on byte rest (none 0 (omega arith)) ∙ ap (begun_by byte) later

-- a text without a line feed is one row
pub only_row : (text : List ℕ) → 0 < length text → NoFeedBelow (length text) text → rows_in text ≡ take (length text) text ∷ rows_in (drop (length text) text)
only_row [] some none = absurd (omega arith)
only_row (byte ∷ []) some none = row_goes_on byte [] (none 0 (omega arith)) ∙ (rw no_rows refl)
only_row (byte ∷ next ∷ rest) some none =
    let later = only_row (next ∷ rest) (omega arith) (λ k below. none (suc k) (omega arith)) in
    row_goes_on byte (next ∷ rest) (none 0 (omega arith)) ∙ ap (begun_by byte) later

-- to keep the last items and then the last of those and later ones is to keep the last of all
keep_last_again : {A : Type 0} (count : ℕ) (xs ys : List A) → keep_last count (keep_last count xs ++ ys) ≡ keep_last count (xs ++ ys)
keep_last_again count xs ys =
    let front = take (length xs - count) xs in
    let last = drop (length xs - count) xs in
    let front_length = length-take-le (length xs - count) xs in
    let last_length = length-drop (length xs - count) xs in
    let both = length-append last ys in
    let all = length-append xs ys in
    let places : length front + (length (last ++ ys) - count) ≡ length (xs ++ ys) - count = omega (arith, front_length (omega arith), last_length, both, all) in
    let same : front ++ (last ++ ys) ≡ xs ++ ys = sym (append_assoc front last ys) ∙ ap (λ l. l ++ ys) (take-append-drop (length xs - count) xs) in
    sym (drop-append-add front (last ++ ys) (length (last ++ ys) - count)) ∙ ap (λ k. drop k (front ++ (last ++ ys))) places ∙ ap (drop (length (xs ++ ys) - count)) same

-- to keep the last items twice is to keep them once
keep_twice : {A : Type 0} (count : ℕ) (xs : List A) → keep_last count (keep_last count xs) ≡ keep_last count xs
keep_twice count xs =
    ap (keep_last count) (sym (append-nil (keep_last count xs))) ∙ keep_last_again count xs [] ∙ ap (keep_last count) (append-nil xs)

-- The rows of two texts

begun-append : (byte : ℕ) (row : List ℕ) (rows more : List (List ℕ)) → begun_by byte ((row ∷ rows) ++ more) ≡ begun_by byte (row ∷ rows) ++ more
begun-append byte row rows more = refl

-- a text with a byte has a row
has_row : (byte : ℕ) (rest : List ℕ) → (row : List ℕ) × ((rows : List (List ℕ)) × (rows_in (byte ∷ rest) ≡ row ∷ rows))
has_row byte rest = go (byte == 10) refl (rows_in rest) refl
  where
    go : (b : Bool) → (byte == 10) ≡ b → (later : List (List ℕ)) → rows_in rest ≡ later → (row : List ℕ) × ((rows : List (List ℕ)) × (rows_in (byte ∷ rest) ≡ row ∷ rows))
    go true is later rows = (byte ∷ [], (rows_in rest, row_ends byte rest (eqb-true byte 10 is)))
    go false is [] rows = (byte ∷ [], ([], row_goes_by byte rest is ∙ ap (begun_by byte) rows))
    go false is (row ∷ more) rows = (byte ∷ row, (more, row_goes_by byte rest is ∙ ap (begun_by byte) rows))

-- so two texts have the rows of both, where they have them but for the first byte
longer : (byte next : ℕ) (rest second : List ℕ) (feed : Bool) → (byte == 10) ≡ feed
    → rows_in ((next ∷ rest) ++ second) ≡ rows_in (next ∷ rest) ++ rows_in second
    → rows_in (byte ∷ next ∷ (rest ++ second)) ≡ rows_in (byte ∷ next ∷ rest) ++ rows_in second
longer byte next rest second true is later =
    row_ends byte (next ∷ (rest ++ second)) (eqb-true byte 10 is) ∙ ap (λ rows. (byte ∷ []) ∷ rows) later
    ∙ ap (λ rows. rows ++ rows_in second) (sym (row_ends byte (next ∷ rest) (eqb-true byte 10 is)))
longer byte next rest second false is later =
    let (row, (rows, has)) = has_row next rest in
    row_goes_by byte (next ∷ (rest ++ second)) is ∙ ap (begun_by byte) (later ∙ ap (λ l. l ++ rows_in second) has)
    ∙ ap (λ l. begun_by byte l ++ rows_in second) (sym has)
    ∙ ap (λ l. l ++ rows_in second) (sym (row_goes_by byte (next ∷ rest) is))

-- the rows of whole rows and of a text behind them
pub rows_in-append : (first second : List ℕ) → AreRows first → rows_in (first ++ second) ≡ rows_in first ++ rows_in second
rows_in-append [] second are = ap (λ rows. rows ++ rows_in second) (sym no_rows)
rows_in-append (byte ∷ []) second are =
    row_ends byte second are ∙ ap (λ rows. (byte ∷ []) ∷ rows ++ rows_in second) (sym no_rows)
    ∙ ap (λ rows. rows ++ rows_in second) (sym (row_ends byte [] are))
rows_in-append (byte ∷ next ∷ rest) second are =
    longer byte next rest second (byte == 10) refl (rows_in-append (next ∷ rest) second are)

-- so they are as many as both are
pub rows-counted : (first second : List ℕ) → AreRows first → length (rows_in (first ++ second)) ≡ length (rows_in first) + length (rows_in second)
rows-counted first second are = ap length (rows_in-append first second are) ∙ length-append (rows_in first) (rows_in second)

-- a byte before the first row
begun_text : (byte : ℕ) (rows : List (List ℕ)) → concat (begun_by byte rows) ≡ byte ∷ concat rows
begun_text byte [] = refl
begun_text byte (row ∷ later) = refl

-- the rows of a text are the text
begun_are : (byte : ℕ) (rest : List ℕ) (feed : Bool) → (byte == 10) ≡ feed → concat (rows_in rest) ≡ rest
    → concat (rows_in (byte ∷ rest)) ≡ byte ∷ rest
begun_are byte rest true is are = ap concat (row_ends byte rest (eqb-true byte 10 is)) ∙ ap (λ l. byte ∷ l) are
begun_are byte rest false is are = ap concat (row_goes_by byte rest is) ∙ begun_text byte (rows_in rest) ∙ ap (λ l. byte ∷ l) are

rows_are : (text : List ℕ) → concat (rows_in text) ≡ text
rows_are [] = ap concat no_rows
rows_are (byte ∷ rest) = begun_are byte rest (byte == 10) refl (rows_are rest)

-- Line feeds

-- 1 for a line feed, and 0 for any other byte
abbrev pub feed_of : ℕ → ℕ
feed_of byte = if byte == 10 then 1 else 0

-- how many line feeds stand in a text
abbrev pub feeds : List ℕ → ℕ
feeds [] = 0
feeds (byte ∷ rest) = feed_of byte + feeds rest

is_feed : (byte : ℕ) → byte ≡ 10 → feed_of byte ≡ 1
is_feed byte is = rw is refl

-- one row more, or a longer first one
row_more : (byte next : ℕ) (rest : List ℕ) (feed : Bool) → (byte == 10) ≡ feed → length (rows_in (next ∷ rest)) ≡ feeds (next ∷ rest)
    → length (rows_in (byte ∷ next ∷ rest)) ≡ feed_of byte + feeds (next ∷ rest)
row_more byte next rest true is later =
    let one = is_feed byte (eqb-true byte 10 is) in
    let more : suc (feeds (next ∷ rest)) ≡ feed_of byte + feeds (next ∷ rest) = omega (arith, one) in
    ap length (row_ends byte (next ∷ rest) (eqb-true byte 10 is)) ∙ ap suc later ∙ more
row_more byte next rest false is later =
    let (row, (rows, has)) = has_row next rest in
    let none : feed_of byte ≡ 0 = ap (λ feed. if feed then 1 else 0) is in
    let same : feeds (next ∷ rest) ≡ feed_of byte + feeds (next ∷ rest) = omega (arith, none) in
    ap length (row_goes_by byte (next ∷ rest) is ∙ ap (begun_by byte) has) ∙ sym (ap length has) ∙ later ∙ same

-- whole rows are as many as their line feeds
pub row_count : (text : List ℕ) → AreRows text → length (rows_in text) ≡ feeds text
row_count [] are = ap length no_rows
row_count (byte ∷ []) are =
    let one = is_feed byte are in
    let same : 1 ≡ feed_of byte + 0 = omega (arith, one) in
    ap length (row_ends byte [] are) ∙ ap suc (ap length no_rows) ∙ same
row_count (byte ∷ next ∷ rest) are = row_more byte next rest (byte == 10) refl (row_count (next ∷ rest) are)

-- one byte more before the end of a text
pub feeds-before : (text : List ℕ) (place : ℕ) → place < length text
    → feeds (drop place text) ≡ feed_of (get_or text place 0) + feeds (drop (suc place) text)
feeds-before [] place below = absurd (omega arith)
feeds-before (byte ∷ rest) zero below = refl
feeds-before (byte ∷ rest) (suc place) below = feeds-before rest place (omega arith)

-- a text that ends with a line feed
ends_at : (before : ℕ) (text : List ℕ) (place : ℕ) → place < length text → get_or text place 0 ≡ 10 → last_byte before (take (suc place) text) ≡ 10
ends_at before [] place below feed = absurd (omega arith)
ends_at before (byte ∷ rest) zero below feed = feed
ends_at before (byte ∷ rest) (suc place) below feed = ends_at byte rest place (omega arith) feed

-- what stands behind whole rows in whole rows
rest_whole : (first second : List ℕ) → AreRows (first ++ second) → AreRows first → AreRows second
rest_whole first second both are =
    ap (λ last. last_byte last second) (sym are) ∙ sym (fold-append (λ last byte. byte) 10 first second) ∙ both

-- The last rows that are kept

keep_none : {A : Type 0} (most : ℕ) (xs : List A) → length xs ≤ most → keep_last most xs ≡ xs
keep_none most xs few = let none : length xs - most ≡ 0 = omega arith in ap (λ k. drop k xs) none

keep_behind : {A : Type 0} (most : ℕ) (xs ys : List A) → length ys ≡ most → keep_last most (xs ++ ys) ≡ ys
keep_behind most xs ys many =
    let both = length-append xs ys in
    let place : length (xs ++ ys) - most ≡ length xs + 0 = omega (arith, both, many) in
    ap (λ k. drop k (xs ++ ys)) place ∙ drop-append-add xs ys 0

keep_enough : {A : Type 0} (most : ℕ) (xs ys : List A) → most ≤ length ys → keep_last most (xs ++ ys) ≡ keep_last most ys
keep_enough most xs ys enough =
    let both = length-append xs ys in
    let place : length (xs ++ ys) - most ≡ length xs + (length ys - most) = omega (arith, both, enough) in
    ap (λ k. drop k (xs ++ ys)) place ∙ drop-append-add xs ys (length ys - most)

-- so many rows from the end
pub record IsLast (text : List ℕ) (most : ℕ) (last : List ℕ) : Type 0 where
  pub whole : AreRows last
  pub rows : rows_in last ≡ keep_last most (rows_in text)

from-end : (text : List ℕ) (place most : ℕ) → AreRows text → place < length text → get_or text place 0 ≡ 10
    → feeds (drop (suc place) text) ≡ most → IsLast text most (drop (suc place) text)
from-end text place most are below feed many =
    let front = take (suc place) text in
    let last = drop (suc place) text in
    let both : front ++ last ≡ text = take-append-drop (suc place) text in
    let front_whole : AreRows front = ends_at 10 text place below feed in
    let last_whole : AreRows last = rest_whole front last (subst AreRows (sym both) are) front_whole in
    let rows : rows_in text ≡ rows_in front ++ rows_in last = ap rows_in (sym both) ∙ rows_in-append front last front_whole in
    let count : length (rows_in last) ≡ most = row_count last last_whole ∙ many in
    record {
      whole = last_whole;
      rows = sym (ap (keep_last most) rows ∙ keep_behind most (rows_in front) (rows_in last) count);
    }

-- the same, by the place behind the line feed
pub from-place : (text : List ℕ) (place most : ℕ) → AreRows text → 0 < place → place ≤ length text → get_or text (place - 1) 0 ≡ 10
    → feeds (drop place text) ≡ most → IsLast text most (drop place text)
from-place text zero most are some within feed many = absurd (omega arith)
from-place text (suc before) most are some within feed many =
    let same : suc before - 1 ≡ before = omega arith in
    from-end text before most are (omega arith) (subst (λ k. get_or text k 0 ≡ 10) same feed) many

pub from-start : (text : List ℕ) (most : ℕ) → AreRows text → feeds text ≤ most → IsLast text most text
from-start text most are few =
    let count = row_count text are in
    record { whole = are; rows = sym (keep_none most (rows_in text) (omega (arith, count, few))) }

-- they are the last rows as a text
pub last-text : (text : List ℕ) (most : ℕ) (last : List ℕ) → IsLast text most last → last ≡ last_rows (Some most) text
last-text text most last is = sym (rows_are last) ∙ ap concat is.rows

pub last-tail : (text : List ℕ) (most : ℕ) (last : List ℕ) → AreRows text → IsLast text most last → IsTailOf text most last
last-tail text most last are is = record {
  whole = are;
  kept_whole = is.whole;
  rows = ap (keep_last most) is.rows ∙ keep_twice most (rows_in text);
}

pub tail-again : (text kept later : List ℕ) (most : ℕ) → IsTailOf text most kept → IsTailOf kept most later → IsTailOf text most later
tail-again text kept later most first second = record {
  whole = first.whole;
  kept_whole = second.kept_whole;
  rows = second.rows ∙ first.rows;
}

pub tail-longer : (text kept rows : List ℕ) (most : ℕ) → IsTailOf text most kept → AreRows rows → IsTailOf (text ++ rows) most (kept ++ rows)
tail-longer text kept rows most is are =
    let all : (front : List ℕ) → AreRows front → keep_last most (rows_in (front ++ rows)) ≡ keep_last most (keep_last most (rows_in front) ++ rows_in rows) =
    λ front whole. ap (keep_last most) (rows_in-append front rows whole) ∙ sym (keep_last_again most (rows_in front) (rows_in rows)) in
    record {
      whole = rows-append text rows is.whole are;
      kept_whole = rows-append kept rows is.kept_whole are;
      rows = all kept is.kept_whole ∙ ap (λ last. keep_last most (last ++ rows_in rows)) is.rows ∙ sym (all text is.whole);
    }

-- where the rows behind others are enough
pub tail-shorter : (first second : List ℕ) (most : ℕ) → AreRows first → AreRows second → most ≤ length (rows_in second)
    → IsTailOf (first ++ second) most second
tail-shorter first second most are also enough = record {
  whole = rows-append first second are also;
  kept_whole = also;
  rows = sym (ap (keep_last most) (rows_in-append first second are) ∙ keep_enough most (rows_in first) (rows_in second) enough);
}
