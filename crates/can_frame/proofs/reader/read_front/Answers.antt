-- Bits have one answer as to their front.
use Rattle.can_frame.proofs.Fronts.{ReadsFront-one}
use Rattle.can_frame.proofs.reader.read_front.Goals as goal

pub returns-clause-only : goal.returns-clause-only
returns-clause-only c = λ answer h. ReadsFront-one _ _ answer c.find_front.ensures.reads h
