-- The last rows of a text.
use Rattle.std.specs.Prelude.{◌≡◌, ℕ, ◌==◌, List, [], ◌∷◌, Option, Some, None, fold, if◌then◌else◌}
use Rattle.std.specs.List.{concat}
use Rattle.circular_buffer.specs.Buffer.{keep_last}

-- the rows of a text whose first row begins with this byte, where these are the rows of the rest
abbrev pub begun_by : ℕ → List (List ℕ) → List (List ℕ)
begun_by byte [] = (byte ∷ []) ∷ []
begun_by byte (row ∷ later) = (byte ∷ row) ∷ later

-- the rows of a text, each with the line feed (10) that ends it
unfoldable pub rows_in : List ℕ → List (List ℕ)
rows_in [] = []
rows_in (byte ∷ rest) = if byte == 10 then (byte ∷ []) ∷ rows_in rest else begun_by byte (rows_in rest)

-- so many of the last rows of a text; all where no number is given
abbrev pub last_rows : Option ℕ → List ℕ → List ℕ
last_rows None text = text
last_rows (Some count) text = concat (keep_last count (rows_in text))

-- the last byte of a text that stands behind this byte
abbrev pub last_byte : ℕ → List ℕ → ℕ
last_byte before text = fold (λ last byte. byte) before text

-- the text is whole rows: it is empty, or a line feed (10) ends it
abbrev pub AreRows : List ℕ → Type 0
AreRows text = last_byte 10 text ≡ 10

-- the text is whole rows, and so is what is kept of it, which has the same last rows, up to so many
pub record IsTailOf (text : List ℕ) (most : ℕ) (kept : List ℕ) : Type 0 where
  pub whole : AreRows text
  pub kept_whole : AreRows kept
  pub rows : keep_last most (rows_in kept) ≡ keep_last most (rows_in text)
