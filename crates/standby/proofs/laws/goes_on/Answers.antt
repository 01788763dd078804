use Rattle.std.proofs.Common.{refl}
use Rattle.standby.proofs.Cores.{openings-core}
use Rattle.standby.proofs.GoingOn.{events-on, legal-on, plain-on}
use Rattle.standby.proofs.laws.goes_on.Goals as goal

pub returns : goal.returns
returns c = record {
  legal = legal-on;
  plain = plain-on;
  openings = λ one other later same. openings-core one other later later same refl;
  events = events-on (record { same = c.one_verdict.ensures.same });
}
