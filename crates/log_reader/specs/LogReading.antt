-- A log that is read row by row.
use Rattle.std.specs.Prelude.{◌≡◌, ℕ, ◌^◌, ◌<◌, List, [], ◌∷◌, ◌++◌, All, length, map}
use Rattle.std.specs.Borrow.{Bor}
use Rattle.csv.specs.declared.reader.Reader.{Reader}
use Rattle.text_fields.specs.CsvReading.{ReadsCsv, bytes_left}
use Rattle.log_reader.specs.Row.{IsLogRow, fields_of_row}
use Rattle.log_reader.specs.declared.log_fault.LogFault.{LogFault}
use Rattle.log_reader.specs.declared.log_fault.LogFault.TheVariants.{Memory, Row}
use Rattle.log_reader.specs.declared.row.LogRow.{LogRow}

-- a reader of rows: the reader of their records, and how many records it has read
pub record RowReader : Type 0 where
  pub records : Reader (Bor (List ℕ))
  pub count : ℕ

-- the reader stands behind these rows of the text: its first records are those of the rows, and the others are left. A
-- text has fewer than 2^64 bytes, and so many rows at most
pub record HasReadRows (bytes : List ℕ) (reader : RowReader) (rows : List LogRow) : Type 0 where
  pub legal : All IsLogRow rows
  pub reads : ReadsCsv bytes reader.records (map fields_of_row rows)
  pub counted : reader.count ≡ length rows
  pub few : length bytes < 2 ^ 64

-- how many records a reader that had read so many has read when it answers a fault. The record of no row is counted, and
-- its number is told; where memory ran out no record was read
abbrev pub CountsAtFault : ℕ → ℕ → LogFault → Type 0
CountsAtFault before after (Row number) = after ≡ number
CountsAtFault before after Memory = after ≡ before

-- the row was read that follows these rows of the text: fewer bytes are left then
pub record ReadsRow (bytes : List ℕ) (before after : RowReader) (rows : List LogRow) (row : LogRow) : Type 0 where
  pub behind : HasReadRows bytes after (rows ++ row ∷ [])
  pub fewer : bytes_left after.records < bytes_left before.records
