-- A text that begins with that of rows.
use Rattle.std.specs.Prelude.{◌≡◌, ℕ, List, ◌++◌, All}
use Rattle.log_reader.specs.Row.{IsLogRow, text_of_rows}
use Rattle.log_reader.specs.declared.row.LogRow.{LogRow}

-- the text is that of these rows, which are rows of a log, and this rest after it
pub record BeginsWith (text : List ℕ) (rows : List LogRow) (rest : List ℕ) : Type 0 where
  pub legal : All IsLogRow rows
  pub written : text ≡ text_of_rows rows ++ rest
