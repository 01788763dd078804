-- The text of rows, read as records: the fields of each row.
use Rattle.std.proofs.Common.{◌≡◌, ℕ, Bool, ◌^◌, ◌<◌, ◌≤◌, ◌++◌, true, List, [], ◌∷◌, All, Some, None, length, map, refl, sym, ap, ◌∙◌, arith, append_assoc}
use Rattle.std.proofs.lemmas.List.{append-nil, length-append, length-map}
use Rattle.std.proofs.lemmas.Bool.{and_parts, and_from, ne_eqb}
use Rattle.std.proofs.lemmas.Bool.Decides.{nat_tests}
use Rattle.std.proofs.lemmas.List.Elements.{All-head, All-tail}
use Rattle.std.specs.Char.{is_ascii_digit}
use Rattle.std.specs.Fmt.{decimal}
use Rattle.std.specs.List.{flat_map, list_all}
use Rattle.std.specs.Borrow.{Bor}
use Rattle.csv.specs.Reading.{strip_bom}
use Rattle.csv.specs.declared.reader.Reader.{Reader}
use Rattle.csv.specs.declared.parser.State.TheVariants as st
use Rattle.text_fields.specs.CsvReading.{ReadsCsv, records_left}
use Rattle.text_fields.specs.CsvRows.{records_of}
use Rattle.text_fields.specs.Hexadecimal.{is_hex_digit}
use Rattle.text_fields.proofs.Shared.{ArePlain, IsPlainRecord, all-data, all-decimal, all-hex, is_plain, no-mark, no-mark-empty, none-next, plain-next}
use Rattle.text_fields.specs.MaskText.{mask_digits, mask_width}
use Rattle.text_fields.specs.Hexadecimal.{hex_digits}
use Rattle.log_reader.specs.Row.{IsLogRow, IsLogVerdict, fields_of_row, fields_of_verdict, row_line, row_text, text_of_rows}
use Rattle.log_reader.specs.RowBytes.{HasNoMark}
use Rattle.log_reader.specs.declared.row.LogRow.{LogRow}
use Rattle.log_reader.specs.declared.row.LogRow.TheVariants as row
use Rattle.log_reader.specs.declared.row.LogVerdict.{LogVerdict}
use Rattle.log_reader.specs.declared.row.LogVerdict.TheVariants as verdict

plain-digit : (x : ℕ) → is_ascii_digit x ≡ true → is_plain x ≡ true
plain-digit x test = grind (arith, nat_tests)

plain-hex : (x : ℕ) → is_hex_digit x ≡ true → is_plain x ≡ true
plain-hex x test = grind (arith, nat_tests)

all-plain : (p : ℕ → Bool) → ((x : ℕ) → p x ≡ true → is_plain x ≡ true) → (xs : List ℕ) → list_all p xs ≡ true → list_all is_plain xs ≡ true
all-plain p each [] all = refl
all-plain p each (x ∷ xs) all =
    let (here, more) = and_parts (p x) (list_all p xs) all in
    and_from (is_plain x) (list_all is_plain xs) (each x here) (all-plain p each xs more)

number-plain : (n : ℕ) → n < 2 ^ 64 → list_all is_plain (decimal n) ≡ true
number-plain n small = all-plain is_ascii_digit plain-digit (decimal n) (all-decimal n small)

hex-plain : (k n : ℕ) → list_all is_plain (hex_digits k n) ≡ true
hex-plain k n = all-plain is_hex_digit plain-hex (hex_digits k n) (all-hex k n)

mask-plain : (mask : ℕ) → list_all is_plain (mask_digits mask) ≡ true
unfolding mask_digits
mask-plain mask = hex-plain (mask_width mask) mask

data-plain : (bytes : List ℕ) → list_all is_plain (flat_map (hex_digits 2) bytes) ≡ true
data-plain bytes = all-plain is_hex_digit plain-hex (flat_map (hex_digits 2) bytes) (all-data bytes)

verdict-plain : (said : LogVerdict) → IsLogVerdict said → ArePlain (fields_of_verdict said)
verdict-plain (verdict.Accepted first len) legal = (refl, (number-plain first legal.0, (number-plain len legal.1, tt)))
verdict-plain (verdict.Passed start next) legal = (refl, (number-plain start legal.0, (number-plain next legal.1, tt)))
verdict-plain (verdict.Horizon from walked) legal = (refl, (number-plain from legal.0, (number-plain walked legal.1, tt)))
verdict-plain (verdict.Miss slot release cycle) legal = (refl, (number-plain slot (omega (arith, legal.0)), (number-plain release legal.1, (number-plain cycle legal.2, tt))))
verdict-plain (verdict.Malformed op why None) legal = (refl, (number-plain op (omega (arith, legal.0)), (number-plain why (omega (arith, legal.1)), tt)))
verdict-plain (verdict.Malformed op why (Some until)) legal = (refl, (number-plain op (omega (arith, legal.0)), (number-plain why (omega (arith, legal.1)), (number-plain until legal.2.0, tt))))

-- the fields of a row have no comma, quote or end of a line
pub row-plain : (read : LogRow) → IsLogRow read → ArePlain (fields_of_row read)
row-plain (row.Submit caller from said) legal = (refl, (number-plain caller (omega (arith, legal.0)), (number-plain from legal.1, verdict-plain said legal.2)))
row-plain (row.Plan cycle mask) legal = (refl, (number-plain cycle legal.0, (mask-plain mask, tt)))
row-plain (row.Look caller next) legal = (refl, (number-plain caller (omega (arith, legal.0)), (number-plain next legal.1, tt)))
row-plain (row.Open cycle mask l) legal = (refl, (number-plain cycle legal.0, (mask-plain mask, (number-plain l (omega (arith, legal.2)), tt))))
row-plain (row.Frame timed) legal = (refl, (number-plain timed.start legal.0, (number-plain timed.len (omega (arith, legal.1)), (hex-plain 3 timed.frame.identifier, (data-plain timed.frame.bytes, tt)))))
row-plain (row.End next) legal = (refl, (number-plain next legal, tt))

-- Rows

record-plain : (read : LogRow) → IsLogRow read → IsPlainRecord (fields_of_row read)
record-plain (row.Submit caller from said) legal = row-plain (row.Submit caller from said) legal
record-plain (row.Plan cycle mask) legal = row-plain (row.Plan cycle mask) legal
record-plain (row.Look caller next) legal = row-plain (row.Look caller next) legal
record-plain (row.Open cycle mask l) legal = row-plain (row.Open cycle mask l) legal
record-plain (row.Frame timed) legal = row-plain (row.Frame timed) legal
record-plain (row.End next) legal = row-plain (row.End next) legal

-- behind the texts of rows stand the records of what follows
front-records : (rows : List LogRow) (rest : List ℕ) → All IsLogRow rows
    → records_left st.StartRecord (text_of_rows rows ++ rest) ≡ map fields_of_row rows ++ records_left st.StartRecord rest
front-records [] rest legal = refl
front-records (read ∷ rows) rest legal =
    ap (records_left st.StartRecord) (append_assoc (row_text read) (text_of_rows rows) rest)
    ∙ plain-next (fields_of_row read) (text_of_rows rows ++ rest) (record-plain read (All-head IsLogRow read rows legal))
    ∙ ap (λ (l : List (List (List ℕ))). fields_of_row read ∷ l) (front-records rows rest (All-tail IsLogRow read rows legal))

unmarked : (rows : List LogRow) (rest : List ℕ) → HasNoMark rest → strip_bom (text_of_rows rows ++ rest) ≡ text_of_rows rows ++ rest
unmarked [] [] none = no-mark-empty
unmarked [] (byte ∷ rest) none = no-mark byte rest (ne_eqb byte 239 none)
unmarked (row.Submit caller from said ∷ rows) rest none = no-mark 115 _ refl
unmarked (row.Plan cycle mask ∷ rows) rest none = no-mark 112 _ refl
unmarked (row.Look caller next ∷ rows) rest none = no-mark 108 _ refl
unmarked (row.Open cycle mask l ∷ rows) rest none = no-mark 111 _ refl
unmarked (row.Frame timed ∷ rows) rest none = no-mark 102 _ refl
unmarked (row.End next ∷ rows) rest none = no-mark 101 _ refl

-- the records of a text that begins with the texts of rows are the fields of these, and the records of the rest
records-front : (bytes rest : List ℕ) (rows : List LogRow) → All IsLogRow rows → bytes ≡ text_of_rows rows ++ rest → HasNoMark rest
    → records_of bytes ≡ map fields_of_row rows ++ records_left st.StartRecord rest
records-front bytes rest rows legal is none =
    ap (λ (b : List ℕ). records_left st.StartRecord (strip_bom b)) is
    ∙ ap (records_left st.StartRecord) (unmarked rows rest none)
    ∙ front-records rows rest legal

-- the records of the text of rows are their fields
pub records-text : (bytes : List ℕ) (rows : List LogRow) → All IsLogRow rows → bytes ≡ text_of_rows rows → records_of bytes ≡ map fields_of_row rows
records-text bytes rows legal is =
    records-front bytes [] rows legal (is ∙ sym (append-nil (text_of_rows rows))) (λ marked. absurd (omega (arith, marked)))
    ∙ ap (λ (l : List (List (List ℕ))). map fields_of_row rows ++ l) none-next
    ∙ append-nil (map fields_of_row rows)

-- there are no more rows than bytes of them
rows-few : (rows : List LogRow) → length rows ≤ length (text_of_rows rows)
rows-few [] = omega arith
rows-few (read ∷ rows) =
    let later = rows-few rows in
    let both = length-append (row_text read) (text_of_rows rows) in
    let own = length-append (row_line read) (10 ∷ []) in
    omega (arith, later, both, own)

-- a reader that was begun behind rows stands behind them
pub reads-behind : (bytes rest : List ℕ) (reader : Reader (Bor (List ℕ))) (rows : List LogRow) → All IsLogRow rows
    → bytes ≡ text_of_rows rows ++ rest → HasNoMark rest → ReadsCsv rest reader [] → ReadsCsv bytes reader (map fields_of_row rows)
reads-behind bytes rest reader rows legal is none begun =
    let own : records_left st.StartRecord rest ≡ records_left reader.state begun.left =
    sym (ap (records_left st.StartRecord) (unmarked [] rest none)) ∙ begun.rows in
    let many = rows-few rows in
    let all = ap length is ∙ length-append (text_of_rows rows) rest in
    let same = length-map rows fields_of_row in
    let left = begun.few in
    record {
      trim = begun.trim;
      ready = begun.ready;
      config = begun.config;
      between = begun.between;
      left = begun.left;
      source = begun.source;
      rows = records-front bytes rest rows legal is none ∙ ap (λ (l : List (List (List ℕ))). map fields_of_row rows ++ l) own;
      few = omega (arith, many, all, same, left);
    }

-- Row by row

text-append : (rows : List LogRow) (line : LogRow) → text_of_rows (rows ++ line ∷ []) ≡ text_of_rows rows ++ row_text line
text-append [] line = append-nil (row_text line)
text-append (first ∷ rows) line =
    ap (λ l. row_text first ++ l) (text-append rows line) ∙ sym (append_assoc (row_text first) (text_of_rows rows) (row_text line))

-- behind the texts of rows stands that of one more
pub written-more : (text : List ℕ) (rows : List LogRow) (line : LogRow) (rest later : List ℕ) → text ≡ text_of_rows rows ++ rest
    → rest ≡ row_text line ++ later → text ≡ text_of_rows (rows ++ line ∷ []) ++ later
written-more text rows line rest later is more =
    is ∙ ap (λ l. text_of_rows rows ++ l) more ∙ sym (append_assoc (text_of_rows rows) (row_text line) later)
    ∙ ap (λ l. l ++ later) (sym (text-append rows line))

-- what stands behind it is shorter
pub written-shorter : (line : LogRow) (rest later : List ℕ) → rest ≡ row_text line ++ later → length later < length rest
written-shorter line rest later is =
    let all = ap length is ∙ length-append (row_text line) later in
    let own = length-append (row_line line) (10 ∷ []) in
    omega (arith, all, own)
