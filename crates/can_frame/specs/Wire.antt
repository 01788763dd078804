-- *Wire*: the bits of a data frame in the order of sending (CAN 2.0 Part A, data frame and bit stream coding), and the
-- three bits of intermission of the interframe space behind it, which are counted with the frame here.
use Rattle.std.specs.Prelude.{ℕ, Bool, true, false, List, [], ◌∷◌, ◌++◌, length, replicate}
use Rattle.std.specs.List.{flat_map}
use Rattle.stuff_bound.specs.Stuffing.{stuffed}
use Rattle.can_frame.specs.DataFrame.{DataFrame}
use Rattle.stuff_bound.specs.Fields.{bits}
use Rattle.can_frame.specs.Crc.{sequence_of}

abbrev pub dominant : Bool
dominant = false

abbrev pub recessive : Bool
recessive = true

-- the fields before the data, in the order of sending
unfoldable pub header : ℕ → ℕ → List Bool
header identifier code =
    (dominant ∷ [])  -- start of frame
    ++ bits 11 identifier
    ++ (dominant ∷ [])  -- RTR
    ++ (dominant ∷ [])  -- r1
    ++ (dominant ∷ [])  -- r0
    ++ bits 4 code  -- data length code

-- the bits that the CRC sequence covers: those fields, and the data bytes
unfoldable pub covered : DataFrame → List Bool
covered frame = header frame.identifier (length frame.bytes) ++ flat_map (bits 8) frame.bytes

-- the bits that are stuffed, where the CRC sequence is this one
unfoldable pub with_sequence : DataFrame → ℕ → List Bool
with_sequence frame sequence = covered frame ++ bits 15 sequence

-- *Plain part*: the bits from the start of frame to the end of the CRC sequence, before stuffing
unfoldable pub plain : DataFrame → List Bool
plain frame = with_sequence frame (sequence_of (covered frame))

-- the bits behind the stuffed part; some receiver makes the acknowledgement slot dominant
abbrev pub trailer : List Bool
trailer =
    recessive  -- CRC delimiter
    ∷ dominant  -- acknowledgement slot
    ∷ recessive  -- acknowledgement delimiter
    ∷ (replicate 7 recessive  -- end of frame
    ++ replicate 3 recessive)  -- intermission

-- the wire of a frame
unfoldable pub wire_of : DataFrame → List Bool
wire_of frame = stuffed (plain frame) ++ trailer

-- the wire length of a frame, in bit times
unfoldable pub wire_length : DataFrame → ℕ
wire_length frame = length (wire_of frame)
