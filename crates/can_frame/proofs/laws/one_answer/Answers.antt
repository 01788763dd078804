-- One answer, and what it says of the wire of a frame.
use Rattle.std.proofs.Common.{Ok, refl}
use Rattle.can_frame.proofs.OneAnswer.{Reads-one}
use Rattle.can_frame.proofs.laws.one_answer.Goals as goal

pub returns : goal.returns
returns c = record {
  one = Reads-one;
  read_back = λ frame answer legal h. Reads-one _ answer (Ok frame) h (legal, refl);
  one_frame = λ first second legal legal' same. let one = Reads-one _ (Ok first) (Ok second) (legal, refl) (legal', same) in cc;
}
