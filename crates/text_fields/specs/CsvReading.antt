-- The records of a text, one after the other, as a reader gives them.
use Rattle.std.specs.Prelude.{◌≡◌, ℕ, ◌+◌, ◌<◌, ◌≤◌, false, List, [], ◌∷◌, ◌++◌, length, Some, unwrap_or}
use Rattle.std.specs.Borrow.{Bor}
use Rattle.csv.specs.Machine.{ends_at_end}
use Rattle.csv.specs.Reading.{Ready, default_config, records_from, source_of}
use Rattle.csv.specs.declared.reader.Reader.{Reader}
use Rattle.csv.specs.declared.reader.Trim.TheVariants as trim
use Rattle.csv.specs.declared.parser.State.{State}
use Rattle.text_fields.specs.CsvRows.{records_of}

-- the reader stands between two records
abbrev pub Between : State → Type 0
Between s = ends_at_end s ≡ false

-- the records that are left of a text, from a state
abbrev pub records_left : State → List ℕ → List (List (List ℕ))
records_left s xs = records_from default_config (length xs + 1) s xs

-- how many bytes a reader has left
abbrev pub bytes_left : Reader (Bor (List ℕ)) → ℕ
bytes_left reader = length (unwrap_or (source_of (λ s. Some s.now) reader) [])

-- how a reader stands between two records: it has these bytes left, the records that were read, and then those left,
-- are all records, and a byte at least was read for each
pub record ReadsCsv (bytes : List ℕ) (reader : Reader (Bor (List ℕ))) (read : List (List (List ℕ))) : Type 0 where
  pub trim : reader.trim ≡ trim.None
  pub ready : Ready reader
  pub config : reader.config ≡ default_config
  pub between : Between reader.state
  pub left : List ℕ
  pub source : source_of (λ s. Some s.now) reader ≡ Some left
  pub rows : records_of bytes ≡ read ++ records_left reader.state left
  pub few : length read + length left ≤ length bytes

-- the record that was read, between those read before and those below it: fewer bytes are left then
pub record ReadsOneCsv (bytes : List ℕ) (before after : Reader (Bor (List ℕ))) (read : List (List (List ℕ)))
    (fields : List (List ℕ)) : Type 0 where
  pub below : List (List (List ℕ))
  pub split : records_of bytes ≡ read ++ fields ∷ below
  pub reads : ReadsCsv bytes after (read ++ fields ∷ [])
  pub fewer : bytes_left after < bytes_left before
