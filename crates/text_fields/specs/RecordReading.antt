-- The records of a text, one after the other, as a reader gives them that reads plain ones by itself.
use Rattle.std.specs.Prelude.{◌≡◌, ℕ, ◌+◌, ◌<◌, ◌≤◌, if◌then◌else◌, List, [], ◌∷◌, ◌++◌, length, drop, get_or, map, take, Option, Some, None}
use Rattle.std.specs.Borrow.{Bor}
use Rattle.csv.specs.Machine.{next_record}
use Rattle.csv.specs.Reading.{default_config}
use Rattle.csv.specs.Records.{fields_of}
use Rattle.csv.specs.declared.parser.State.TheVariants as st
use Rattle.csv.specs.declared.reader.Reader.{Reader}
use Rattle.text_fields.specs.CsvReading as csv
use Rattle.text_fields.specs.CsvRows.{records_of}
use Rattle.text_fields.specs.declared.records.Record.{Record}
use Rattle.text_fields.specs.declared.records.RecordReader.{RecordReader}

-- the first parts of a text, as many as that
abbrev pub parts_in : List (Bor (List ℕ)) → ℕ → List (List ℕ)
parts_in parts count = map (λ part. part.now) (take count parts)

-- the fields of a record
abbrev pub fields_in : Record → List (List ℕ)
fields_in row = if row.is_plain then parts_in row.parts row.count else fields_of row.other

-- the line that a text begins with was cut into these fields: they are its first record, and behind it stand a line feed
-- and the rest, or nothing
pub record IsCut (line : List ℕ) (fields : List (List ℕ)) (behind : List ℕ) : Type 0 where
  pub next : next_record default_config st.StartField [] [] line ≡ Some (fields, st.StartRecord, drop 1 behind)
  pub feed : get_or behind 0 10 ≡ 10
  pub fewer : length behind < length line

-- the records that `csv` has left, from a record of some text on
pub record AreBehind (reader : Reader (Bor (List ℕ))) (rows : List (List (List ℕ))) : Type 0 where
  pub text : List ℕ
  pub front : List (List (List ℕ))
  pub reads : csv.ReadsCsv text reader front
  pub split : records_of text ≡ front ++ rows

-- the records that are left: those of the rest of the text, or those that `csv` has left
abbrev pub AreLeft : List ℕ → Option (Reader (Bor (List ℕ))) → List (List (List ℕ)) → Type 0
AreLeft rest None rows = records_of rest ≡ rows
AreLeft rest (Some reader) rows = AreBehind reader rows

-- how many bytes are left
abbrev pub left_of : List ℕ → Option (Reader (Bor (List ℕ))) → ℕ
left_of rest None = length rest
left_of rest (Some reader) = csv.bytes_left reader

abbrev pub bytes_left : RecordReader → ℕ
bytes_left reader = left_of reader.rest.now reader.other

-- how a reader stands between two records: those that were read, and then those that are left, are all records, and a
-- byte at least was read for each
pub record ReadsRecords (bytes : List ℕ) (reader : RecordReader) (read : List (List (List ℕ))) : Type 0 where
  pub rows : List (List (List ℕ))
  pub left : AreLeft reader.rest.now reader.other rows
  pub whole : records_of bytes ≡ read ++ rows
  pub few : length read + bytes_left reader ≤ length bytes

-- the record that was read, between those read before and those below it: fewer bytes are left then
pub record ReadsOneRecord (bytes : List ℕ) (before after : RecordReader) (read : List (List (List ℕ)))
    (fields : List (List ℕ)) : Type 0 where
  pub below : List (List (List ℕ))
  pub split : records_of bytes ≡ read ++ fields ∷ below
  pub reads : ReadsRecords bytes after (read ++ fields ∷ [])
  pub fewer : bytes_left after < bytes_left before
