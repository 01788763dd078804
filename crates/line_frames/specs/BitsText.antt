-- Bits as text: a digit for each bit, in the order of the times. A dominant bit is `0` and a recessive one is `1`, and
-- line feeds stand where they like.
use Rattle.std.specs.Prelude.{◌≡◌, ℕ, ◌<◌, ◌⊎◌, Bool, List, [], ◌∷◌, All, length, get_or, take, ◌==◌, if◌then◌else◌}
use Rattle.std.specs.List.{flat_map}
use Rattle.can_frame.specs.Wire.{dominant, recessive}

-- the byte is `0`, `1` or a line feed
abbrev pub IsBitByte : ℕ → Type 0
IsBitByte byte = (byte ≡ 48) ⊎ (byte ≡ 49) ⊎ (byte ≡ 10)

-- the bits that a byte writes
abbrev pub bits_of : ℕ → List Bool
bits_of byte = if byte == 48 then dominant ∷ [] else if byte == 49 then recessive ∷ [] else []

-- the text writes bits
abbrev pub IsBitsText : List ℕ → Type 0
IsBitsText text = All IsBitByte text

-- the bits that it writes
abbrev pub bits_in : List ℕ → List Bool
bits_in text = flat_map bits_of text

-- the first byte that is none of these stands at the place
pub record HasOther (text : List ℕ) (place : ℕ) : Type 0 where
  pub before : All IsBitByte (take place text)
  pub within : place < length text
  pub other : ¬ IsBitByte (get_or text place 0)
