-- How a reader of records goes on: by a plain record, or by `csv`.
use Rattle.std.proofs.Common.{Bor, ◌≡◌, ℕ, ◌+◌, ◌<◌, ◌≤◌, List, [], ◌∷◌, ◌++◌, length, length-append, Some, None, refl, sym, ap, ◌∙◌, arith, append_assoc}
use Rattle.std.proofs.lemmas.List.{append-nil, append_cancel_left}
use Rattle.csv.specs.declared.reader.Reader.{Reader}
use Rattle.text_fields.specs.CsvReading as csv
use Rattle.text_fields.specs.CsvRows.{records_of}
use Rattle.text_fields.specs.RecordReading.{AreBehind, AreLeft, ReadsOneRecord, ReadsRecords, bytes_left}
use Rattle.text_fields.specs.declared.records.RecordReader.{RecordReader}

few_left : (text : List ℕ) (reader : Reader (Bor (List ℕ))) (front : List (List (List ℕ))) → csv.ReadsCsv text reader front
    → length front + csv.bytes_left reader ≤ length text
few_left text reader front is = rw is.source is.few

module _ (bytes : List ℕ) (old : RecordReader) (read : List (List (List ℕ))) (so_far : ReadsRecords bytes old read) where
  -- one record more, behind which these are left
  goes_on : (new : RecordReader) (fields : List (List ℕ)) (below : List (List (List ℕ))) → so_far.rows ≡ fields ∷ below
      → AreLeft new.rest.now new.other below → bytes_left new < bytes_left old → ReadsOneRecord bytes old new read fields
  goes_on new fields below are left fewer =
      let split : records_of bytes ≡ read ++ fields ∷ below = so_far.whole ∙ ap (λ rows. read ++ rows) are in
      record {
        below = below;
        split = split;
        reads = record {
          rows = below;
          left = left;
          whole = split ∙ sym (append_assoc read (fields ∷ []) below);
          few = omega (arith, so_far.few, fewer, length-append read (fields ∷ []));
        };
        fewer = fewer;
      }

  all_read : so_far.rows ≡ [] → records_of bytes ≡ read
  all_read none = so_far.whole ∙ ap (λ rows. read ++ rows) none ∙ append-nil read

  -- while all records are plain
  module _ (plain : old.other ≡ None) where
    plain_rows : records_of old.rest.now ≡ so_far.rows
    plain_rows = rw plain at so_far.left

    pub by_plain : (new : RecordReader) (fields : List (List ℕ)) → new.other ≡ None → records_of old.rest.now ≡ fields ∷ records_of new.rest.now
        → length new.rest.now < length old.rest.now → ReadsOneRecord bytes old new read fields
    by_plain new fields other is fewer =
        goes_on new fields (records_of new.rest.now) (sym plain_rows ∙ is) (rw other refl) (rw (other, plain) fewer)

    pub by_plain_all : records_of old.rest.now ≡ [] → records_of bytes ≡ read
    by_plain_all none = all_read (sym plain_rows ∙ none)

    pub to_csv : (new : RecordReader) (fields : List (List ℕ)) (first second : Reader (Bor (List ℕ))) → new.other ≡ Some second
        → csv.ReadsCsv old.rest.now first [] → csv.ReadsOneCsv old.rest.now first second [] fields → ReadsOneRecord bytes old new read fields
    to_csv new fields first second other begun one =
        let fewer : csv.bytes_left second < length old.rest.now = omega (arith, one.fewer, few_left old.rest.now first [] begun) in
        let left : AreBehind second one.below = record { text = old.rest.now; front = fields ∷ []; reads = one.reads; split = one.split } in
        goes_on new fields one.below (sym plain_rows ∙ one.split) (rw other left) (rw (other, plain) fewer)

  -- once `csv` reads
  module _ (before : Reader (Bor (List ℕ))) (is : old.other ≡ Some before) where
    behind : AreBehind before so_far.rows
    behind = rw is at so_far.left

    pub by_csv : (new : RecordReader) (fields : List (List ℕ)) (after : Reader (Bor (List ℕ))) → new.other ≡ Some after
        → ((text : List ℕ) (front : List (List (List ℕ))) → csv.ReadsCsv text before front → csv.ReadsOneCsv text before after front fields)
        → ReadsOneRecord bytes old new read fields
    by_csv new fields after other reads =
        let one = reads behind.text behind.front behind.reads in
        let rows : so_far.rows ≡ fields ∷ one.below = append_cancel_left behind.front so_far.rows (fields ∷ one.below) (sym behind.split ∙ one.split) in
        let left : AreBehind after one.below
        = record {
          text = behind.text;
          front = behind.front ++ fields ∷ [];
          reads = one.reads;
          split = one.split ∙ sym (append_assoc behind.front (fields ∷ []) one.below);
        } in
        goes_on new fields one.below rows (rw other left) (rw (other, is) one.fewer)

    pub by_csv_all : ((text : List ℕ) (front : List (List (List ℕ))) → csv.ReadsCsv text before front → records_of text ≡ front) → records_of bytes ≡ read
    by_csv_all all =
        let whole = all behind.text behind.front behind.reads in
        let none : so_far.rows ≡ [] = append_cancel_left behind.front so_far.rows [] (sym behind.split ∙ whole ∙ sym (append-nil behind.front)) in
        all_read none
