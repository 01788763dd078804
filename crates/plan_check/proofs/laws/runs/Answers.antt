use Rattle.plan_check.proofs.Runs.{listed-are, listed-spread, spread-listed}
use Rattle.plan_check.proofs.laws.runs.Goals as goal

pub returns : goal.returns
returns c = record { masks = spread-listed; listed = listed-are; only = listed-spread }
