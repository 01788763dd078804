use Rattle.admission.proofs.Due.{taken-due}
use Rattle.admission.proofs.laws.taken_where_due.Goals as goal

pub returns : goal.returns
returns c = record {
  taken = λ rules placed pending from next change verdict ranges well types held opened in_time is.
      taken-due rules ranges placed pending from next change well types held opened in_time verdict is;
}
