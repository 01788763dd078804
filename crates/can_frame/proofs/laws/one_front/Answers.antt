-- One answer as to the front, and the first bit of a wire.
use Rattle.can_frame.proofs.Fronts.{ReadsFront-one, wire-starts}
use Rattle.can_frame.proofs.laws.one_front.Goals as goal

pub returns : goal.returns
returns c = record { one = ReadsFront-one; starts = wire-starts }
