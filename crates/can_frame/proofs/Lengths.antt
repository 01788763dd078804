-- How long wires are: the plain part has 34 + 8n bits, stuffing adds fewer than one for each four, and 13 follow.
use Rattle.std.proofs.Common.{◌≡◌, ◌+◌, ◌*◌, ◌<◌, ◌≤◌, length, arith}
use Rattle.stuff_bound.specs.Stuffing.{worst}
use Rattle.stuff_bound.proofs.Shared.{length-stuffed-least, length-stuffed-most}
use Rattle.can_frame.specs.DataFrame.{DataFrame}
use Rattle.can_frame.specs.Crc.{sequence_of}
use Rattle.can_frame.specs.Wire.{covered, plain, wire_length}
use Rattle.can_frame.proofs.Plain.{length-with_sequence}
use Rattle.can_frame.proofs.OneAnswer.{length-wire}

length-plain : (frame : DataFrame) → length (plain frame) ≡ 34 + 8 * length frame.bytes
unfolding plain
length-plain frame = length-with_sequence frame (sequence_of (covered frame))

pub wire-positive : (frame : DataFrame) → 0 < wire_length frame
wire-positive frame = omega (arith, length-wire frame)

pub wire-least : (frame : DataFrame) → 47 + 8 * length frame.bytes ≤ wire_length frame
wire-least frame = omega (arith, length-wire frame, length-plain frame, length-stuffed-least (plain frame))

pub wire-most : (frame : DataFrame) → wire_length frame ≤ worst (length frame.bytes)
wire-most frame = grind (arith, length-plain, length-wire, length-stuffed-most)
