-- Records are the fields of rows in one way only, also where they go on with fields of no row.
use Rattle.std.proofs.Common.{◌≡◌, ◌⊎◌, ℕ, ◌+◌, ◌^◌, ◌<◌, List, [], ◌∷◌, ◌++◌, All, length, map, Some, None, refl, sym, ap, ◌∙◌, subst, inl, inr, arith, Option, Result, Ok, Err, IfErr, IfNone, MatchResult}
use Rattle.std.specs.Prelude.{IsErrAnd}
use Rattle.std.proofs.lemmas.List.{append-nil, length-append, length-map, map-append}
use Rattle.std.proofs.lemmas.List.Elements.{All-head, All-push, All-tail}
use Rattle.std.proofs.lemmas.Option.{same_Some}
use Rattle.text_fields.specs.CsvReading.{ReadsCsv, ReadsOneCsv}
use Rattle.text_fields.specs.CsvRows.{records_of}
use Rattle.log_reader.specs.LogReading.{HasReadRows, ReadsRow, RowReader}
use Rattle.log_reader.specs.Row.{AreRowsOf, IsFirstFaultyRow, IsLogFault, IsLogRow, fields_of_row}
use Rattle.log_reader.specs.RowFields.{row_of}
use Rattle.log_reader.specs.declared.log_fault.LogFault.{LogFault}
use Rattle.log_reader.specs.declared.log_fault.LogFault.TheVariants.{Row, Memory}
use Rattle.log_reader.specs.declared.row.LogRow.{LogRow}
use Rattle.log_reader.proofs.RowForms.{row-found, row-read}

-- these fields are those of no row
abbrev pub NoRow : List (List ℕ) → Type 0
NoRow fields = (read : LogRow) → IsLogRow read → fields ≡ fields_of_row read → ⊥

-- there are no records, or the first one is that of no row
abbrev pub BeginsWithNone : List (List (List ℕ)) → Type 0
BeginsWithNone [] = Unit {0}
BeginsWithNone (fields ∷ below) = NoRow fields

-- fields that have none of the forms
pub none-formed : (fields : List (List ℕ)) → None ≡ row_of fields → NoRow fields
none-formed fields found read legal is =
    let other : Some read ≡ None = sym (row-found read legal) ∙ ap row_of (sym is) ∙ sym found in
    absurd (let wrong : ⊥ = cc in wrong)

one_row : (a b : LogRow) → IsLogRow a → IsLogRow b → fields_of_row a ≡ fields_of_row b → a ≡ b
one_row a b one other is = same_Some a b (sym (row-found a one) ∙ ap row_of is ∙ row-found b other)

pub one_reading : (xs ys : List LogRow) (x y : List (List (List ℕ))) → All IsLogRow xs → All IsLogRow ys → BeginsWithNone x → BeginsWithNone y
    → map fields_of_row xs ++ x ≡ map fields_of_row ys ++ y → (xs ≡ ys) × (x ≡ y)
one_reading [] [] x y one other none nor is = (refl, is)
one_reading [] (b ∷ ys) [] y one other none nor is = absurd (cc)
one_reading [] (b ∷ ys) (fields ∷ x) y one other none nor is =
    let first : fields ≡ fields_of_row b = cc in
    absurd (none b (All-head IsLogRow b ys other) first)
one_reading (a ∷ xs) [] x [] one other none nor is = absurd (cc)
one_reading (a ∷ xs) [] x (fields ∷ y) one other none nor is =
    let first : fields ≡ fields_of_row a = cc in
    absurd (nor a (All-head IsLogRow a xs one) first)
one_reading (a ∷ xs) (b ∷ ys) x y one other none nor is =
    let first : fields_of_row a ≡ fields_of_row b = cc in
    let tails : map fields_of_row xs ++ x ≡ map fields_of_row ys ++ y = cc in
    let head : a ≡ b = one_row a b (All-head IsLogRow a xs one) (All-head IsLogRow b ys other) first in
    let rest = one_reading xs ys x y (All-tail IsLogRow a xs one) (All-tail IsLogRow b ys other) none nor tails in
    let same = rest.0 in
    (cc, rest.1)

-- rows whose records begin a text are the first of those that it is
first-rows : (read rows : List LogRow) (x : List (List (List ℕ))) → All IsLogRow read → All IsLogRow rows
    → map fields_of_row read ++ x ≡ map fields_of_row rows → (later : List LogRow) × (rows ≡ read ++ later)
first-rows [] rows x one other is = (rows, refl)
first-rows (a ∷ read) [] x one other is = absurd (cc)
first-rows (a ∷ read) (b ∷ rows) x one other is =
    let first : fields_of_row a ≡ fields_of_row b = cc in
    let tails : map fields_of_row read ++ x ≡ map fields_of_row rows = cc in
    let head : a ≡ b = one_row a b (All-head IsLogRow a read one) (All-head IsLogRow b rows other) first in
    let (later, rest) = first-rows read rows x (All-tail IsLogRow a read one) (All-tail IsLogRow b rows other) tails in
    (later, cc)

-- Row by row

module _ (bytes : List ℕ) (before after : RowReader) (rows : List LogRow) (fields : List (List ℕ)) (is : HasReadRows bytes before rows)
    (one : ReadsOneCsv bytes before.records after.records (map fields_of_row rows) fields) where
  -- one record more is counted
  count-fits : before.count + 1 < 2 ^ 64
  count-fits =
      let counted = is.counted in
      let few = is.few in
      let fewer = one.reads.few in
      let more = length-append (map fields_of_row rows) (fields ∷ []) in
      let same = length-map rows fields_of_row in
      omega (arith, counted, few, fewer, more, same)

  -- a row more is read
  pub reads-row : (row : LogRow) → row_of fields ≡ Some row → (before.count + 1 < 2 ^ 64 → after.count ≡ before.count + 1)
      → ReadsRow bytes before after rows row
  reads-row row found counts =
      let form = row-read fields row found in
      let more : map fields_of_row (rows ++ row ∷ []) ≡ map fields_of_row rows ++ fields ∷ []
      = map-append fields_of_row rows (row ∷ []) ∙ ap (λ (f : List (List ℕ)). map fields_of_row rows ++ f ∷ []) (sym form.is) in
      let count : after.count ≡ before.count + 1 = counts count-fits in
      let counted = is.counted in
      record {
        behind = record {
          legal = All-push IsLogRow rows row is.legal form.legal;
          reads = subst (ReadsCsv bytes after.records) (sym more) one.reads;
          counted = omega (arith, count, counted, length-append rows (row ∷ []));
          few = is.few;
        };
        fewer = one.fewer;
      }

-- where all records are read
module _ (bytes : List ℕ) (read : List LogRow) (legal : All IsLogRow read) (all : records_of bytes ≡ map fields_of_row read) where
  pub whole-back : (rows : List LogRow) → All IsLogRow rows → records_of bytes ≡ map fields_of_row rows → read ≡ rows
  whole-back rows other are =
      (one_reading read rows [] [] legal other tt tt
      (append-nil (map fields_of_row read) ∙ sym all ∙ are ∙ sym (append-nil (map fields_of_row rows)))).0

  pub none-faulty : (number : ℕ) → IsFirstFaultyRow bytes number → ⊥
  none-faulty number fault =
      let one = one_reading read fault.before [] (fault.fields ∷ fault.below) legal fault.rows tt fault.none
      (append-nil (map fields_of_row read) ∙ sym all ∙ fault.split) in
      let none : [] ≡ fault.fields ∷ fault.below = one.1 in
      cc

-- where a record has none of the forms
module _ (bytes : List ℕ) (read : List LogRow) (legal : All IsLogRow read) (fields : List (List ℕ)) (below : List (List (List ℕ)))
    (split : records_of bytes ≡ map fields_of_row read ++ fields ∷ below) (none : NoRow fields) where
  pub faulty-row : (number : ℕ) → number ≡ length read + 1 → IsFirstFaultyRow bytes number
  faulty-row number at =
      record { before = read; rows = legal; fields = fields; below = below; split = split; number_is = at; none = none }

  pub not-back : (rows : List LogRow) → All IsLogRow rows → records_of bytes ≡ map fields_of_row rows → ⊥
  not-back rows other are =
      let one = one_reading read rows (fields ∷ below) [] legal other none tt (sym split ∙ are ∙ sym (append-nil (map fields_of_row rows))) in
      let wrong : fields ∷ below ≡ [] = one.1 in
      cc

  pub one-fault : (number : ℕ) → IsFirstFaultyRow bytes number → number ≡ length read + 1
  one-fault number fault =
      let one = one_reading read fault.before (fields ∷ below) (fault.fields ∷ fault.below) legal fault.rows none fault.none (sym split ∙ fault.split) in
      let same : length fault.before ≡ length read = ap length (sym one.0) in
      let at = fault.number_is in
      omega arith

-- a record that has none of the forms is the first faulty row
pub reads-fault : (bytes : List ℕ) (before after : RowReader) (rows : List LogRow) (fields : List (List ℕ))
    → HasReadRows bytes before rows → ReadsOneCsv bytes before.records after.records (map fields_of_row rows) fields
    → None ≡ row_of fields → (before.count + 1 < 2 ^ 64 → after.count ≡ before.count + 1) → IsFirstFaultyRow bytes after.count
reads-fault bytes before after rows fields is one found counts =
    let count : after.count ≡ before.count + 1 = counts (count-fits bytes before after rows fields is one) in
    let counted = is.counted in
    faulty-row bytes rows is.legal fields one.below one.split (none-formed fields found) after.count (omega (arith, count, counted))

-- What a fault says, and what rows that are all do

-- a text of rows has no faulty row
pub no-rows : (bytes : List ℕ) (fault : LogFault) → IsLogFault bytes fault → (rows : List LogRow) → AreRowsOf bytes rows → fault ≡ Memory
no-rows bytes (Row number) is rows are = absurd (none-faulty bytes rows are.0 are.1 number is)
no-rows bytes Memory is rows are = refl

-- a fault names the first faulty row
pub same-fault : (bytes : List ℕ) (fault : LogFault) → IsLogFault bytes fault → (number : ℕ) → IsFirstFaultyRow bytes number
    → (fault ≡ Row number) ⊎ (fault ≡ Memory)
same-fault bytes (Row found) is number first =
    let at : number ≡ length is.before + 1 = one-fault bytes is.before is.rows is.fields is.below is.split is.none number first in
    inl (ap Row (is.number_is ∙ sym at))
same-fault bytes Memory is number first = inr refl

-- a text is the rows of a log in one way
pub one-log : (bytes : List ℕ) (rows others : List LogRow) → AreRowsOf bytes rows → AreRowsOf bytes others → rows ≡ others
one-log bytes rows others are other = whole-back bytes rows are.0 are.1 others other.0 other.1

-- the rows that were read are the first of its rows
pub read-first : (bytes : List ℕ) (reader : RowReader) (read rows : List LogRow) → HasReadRows bytes reader read → AreRowsOf bytes rows
    → (later : List LogRow) × (rows ≡ read ++ later)
read-first bytes reader read rows is are = first-rows read rows _ is.legal are.0 (sym is.reads.rows ∙ are.1)

-- A fault that is passed on

pub passes-on : {T : Type 0} (result : Result T LogFault) (P : LogFault → Type 0) (fault : LogFault) → IsErrAnd result (λ e. e ≡ fault)
    → P fault → IfErr result P
passes-on (Ok value) P fault is holds = absurd is
passes-on (Err e) P fault is holds = subst P (sym is) holds

pub passes-match : {T : Type 0} (result : Result T LogFault) (Q : T → Type 0) (P : LogFault → Type 0) (fault : LogFault)
    → IsErrAnd result (λ e. e ≡ fault) → P fault → MatchResult result Q P
passes-match (Ok value) Q P fault is holds = absurd is
passes-match (Err e) Q P fault is holds = subst P (sym is) holds

-- where no row is found, what holds then does
pub none-found : {X P : Type 0} (found : Option X) → ((row : X) → found ≡ Some row → ⊥) → IfNone found P → P
none-found None other is = is
none-found (Some row) other is = absurd (other row refl)
