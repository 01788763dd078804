-- The frame at the front of the bits from the place on.
use Rattle.bus_line.proofs.Recordings.{stands_at}
use Rattle.bus_line.proofs.recording.sent_at.Goals as goal

pub returns-in-Ok-clause-stands : goal.returns-in-Ok-clause-stands
returns-in-Ok-clause-stands c = stands_at c.args.bits.now c.args.start c.in-Ok.front c.requires.within c.in-Ok.ensures.reads
