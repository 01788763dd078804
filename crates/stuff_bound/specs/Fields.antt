-- Numbers and bytes on the wire, the most significant bit first: a dominant bit (`false`) is 0, a recessive one
-- (`true`) is 1.
use Rattle.std.specs.Prelude.{ℕ, zero, suc, ◌/◌, ◌%◌, ◌==◌, Bool, List, [], ◌∷◌, ◌++◌}
use Rattle.std.specs.List.{flat_map}

-- the bits of a number in a field of `width` bits, which leaves out what lies above them
unfoldable pub bits : ℕ → ℕ → List Bool
bits zero value = []
bits (suc width) value = bits width (value / 2) ++ (value % 2 == 1) ∷ []

-- the bits of bytes, one byte behind the other
abbrev pub bits_of : List ℕ → List Bool
bits_of bytes = flat_map (bits 8) bytes
