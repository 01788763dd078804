-- How many bits a frame has at most.
use Rattle.std.proofs.Common.{◌≡◌, ◌+◌, ◌*◌, ◌≤◌, length, map, arith}
use Rattle.std.proofs.lemmas.List.{length-map}
use Rattle.std.specs.Int.{from_bool}
use Rattle.can_frame.specs.DataFrame.{DataFrame, IsFrame}
use Rattle.can_frame.specs.Wire.{wire_length, wire_of}

pub few_bits : (frame : DataFrame) → IsFrame frame → wire_length frame ≤ 55 + 10 * length frame.bytes
    → length (map from_bool (wire_of frame)) ≤ 135
unfolding wire_length
few_bits frame is least =
    let same : length (map from_bool (wire_of frame)) ≡ length (wire_of frame) = length-map (wire_of frame) from_bool in
    let few : length frame.bytes ≤ 8 = is.few in
    omega arith
