use Rattle.std.proofs.Common.{refl}
use Rattle.master_core.proofs.apart.plan_apart.Goals as goal

pub returns-clause-planned : goal.returns-clause-planned
returns-clause-planned c =
    let planned = rw c.as_slice.ensures.list at c.in_ok-answer.ensures.planned in
    let decided = rw c.in_ok-answer.ensures.change at planned.decided in
    record {
      rules = refl;
      accepted = refl;
      asked = c.in_ok-answer.ensures.change;
      from = planned.from;
      decided = decided;
    }

pub returns-clause-complete : goal.returns-clause-complete
returns-clause-complete c = rw c.as_slice.ensures.list at c.in_ok-answer.ensures.complete
