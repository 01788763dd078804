-- Bits have one answer.
use Rattle.can_frame.proofs.OneAnswer.{Reads-one}
use Rattle.can_frame.proofs.reader.read_wire.Goals as goal

pub returns-clause-only : goal.returns-clause-only
returns-clause-only c = λ answer h. Reads-one _ _ answer c.read.ensures.reads h
