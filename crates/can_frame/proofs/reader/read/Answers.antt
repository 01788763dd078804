-- The frame at the front, where nothing is behind it.
use Rattle.can_frame.proofs.Fronts.{Reads-whole, Reads-more}
use Rattle.can_frame.proofs.reader.read.Goals as goal

pub returns-then-front-bits : goal.returns-then-front-bits
returns-then-front-bits c = record { reads = Reads-more c.args.bits.now c.in_ok-front.front c.in_ok-front.ensures.reads c.if-front-bits.true }

pub returns : goal.returns
returns c = record { reads = Reads-whole c.args.bits.now c.in_ok-front.front c.in_ok-front.ensures.reads c.if-front-bits.false }
