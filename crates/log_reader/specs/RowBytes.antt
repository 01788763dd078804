-- Words for contracts inside the crate: where digits end, and rows by their bytes.
use Rattle.std.specs.Prelude.{◌≡◌, ◌≢◌, ℕ, ◌+◌, ◌-◌, ◌%◌, ◌^◌, ◌<◌, ◌≤◌, ◌==◌, ◌||◌, Bool, if◌then◌else◌, nat_lt}
use Rattle.std.specs.Prelude.{All, List, ◌∷◌, ◌++◌, get_or, length}
use Rattle.std.specs.Fmt.{decimal}
use Rattle.std.specs.List.{flat_map}
use Rattle.profile.specs.Limits.{greatest_identifier}
use Rattle.text_fields.specs.Hexadecimal.{hex_digits}
use Rattle.log_reader.specs.Row.{IsLogRow, row_text, text_of_rows}
use Rattle.log_reader.specs.declared.row.LogRow.{LogRow}

-- the byte is one of so many from the first one on, counted round, or one of so many letters from `a` on
abbrev pub is_among : ℕ → ℕ → ℕ → ℕ → Bool
is_among first count letters byte = nat_lt ((byte + (256 - first)) % 256) count || nat_lt ((byte + (256 - 97)) % 256) letters

-- the bytes begin with what follows the start in the row of a frame, behind which this is left
pub record BeginsWithBody (bytes rest : List ℕ) : Type 0 where
  pub len : ℕ
  pub short : len < 10 ^ 9
  pub identifier : ℕ
  pub named : identifier ≤ greatest_identifier
  pub content : List ℕ
  pub few : length content ≤ 8
  pub each : All (λ byte. byte < 256) content
  pub written : bytes ≡ decimal len ++ 44 ∷ (hex_digits 3 identifier ++ 44 ∷ (flat_map (hex_digits 2) content ++ 10 ∷ rest))

-- the text begins with that of a row of a log, behind which this is left
pub record BeginsWithRow (text rest : List ℕ) : Type 0 where
  pub row : LogRow
  pub legal : IsLogRow row
  pub written : text ≡ row_text row ++ rest

-- it begins with those of so many rows of a log
pub record BeginsWithRows (text rest : List ℕ) (count : ℕ) : Type 0 where
  pub rows : List LogRow
  pub legal : All IsLogRow rows
  pub written : text ≡ text_of_rows rows ++ rest
  pub counted : count ≡ length rows

-- the text doesn't begin as a byte order mark does
abbrev pub HasNoMark : List ℕ → Type 0
HasNoMark text = get_or text 0 0 ≢ 239
