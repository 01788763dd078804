use Rattle.admission.proofs.Once.{only-verdict}
use Rattle.admission.proofs.laws.one_verdict.Goals as goal

pub returns : goal.returns
returns c = record {
  same = λ rules placed pending from next change one other first second.
      only-verdict rules placed pending from next change one other first second;
}
