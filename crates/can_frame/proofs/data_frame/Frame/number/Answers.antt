-- The data bytes are the first of eight places.
use Rattle.std.proofs.Common.{ap₂, arith}
use Rattle.std.proofs.lemmas.List.{length-take}
use Rattle.can_frame.proofs.LowBytes.{places-number}
use Rattle.can_frame.proofs.data_frame.Frame.number.Goals as goal

pub returns : goal.returns
returns c = grind (arith, length-take, ap₂, places-number)
