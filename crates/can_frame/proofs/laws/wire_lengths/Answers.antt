use Rattle.can_frame.proofs.Lengths.{wire-least, wire-most, wire-positive}
use Rattle.can_frame.proofs.laws.wire_lengths.Goals as goal

pub returns : goal.returns
returns c = record { not_empty = wire-positive; at_least = wire-least; at_most = wire-most }
