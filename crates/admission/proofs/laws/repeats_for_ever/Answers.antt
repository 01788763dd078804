use Rattle.admission.proofs.Once.{repeat-never}
use Rattle.admission.proofs.laws.repeats_for_ever.Goals as goal

pub returns : goal.returns
returns c = record {
  never = repeat-never;
}
