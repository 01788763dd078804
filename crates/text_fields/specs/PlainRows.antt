-- Plain text of rows: what stands for itself in a field, and where a row begins.
use Rattle.std.specs.Prelude.{ℕ, ◌==◌, ◌&&◌, ◌||◌, Bool, not, if◌then◌else◌, List, [], ◌∷◌}

-- neither a comma nor a quote, and no byte that ends a line
abbrev pub is_plain : ℕ → Bool
is_plain byte = not (byte == 44) && not (byte == 34) && not (byte == 13) && not (byte == 10)

-- whether a byte ends a line
abbrev pub ends_line : ℕ → Bool
ends_line byte = (byte == 13) || (byte == 10)

-- a text without the line ends at its start
abbrev pub without_ends : List ℕ → List ℕ
without_ends [] = []
without_ends (byte ∷ rest) = if ends_line byte then without_ends rest else byte ∷ rest
