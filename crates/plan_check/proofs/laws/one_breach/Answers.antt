use Rattle.plan_check.proofs.FirstBreach.{one-breach}
use Rattle.plan_check.proofs.laws.one_breach.Goals as goal

pub returns : goal.returns
returns c = record { one = one-breach }
