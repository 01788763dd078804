use Rattle.planner_policies.proofs.Fits.{good-cycle, held-is}
use Rattle.planner_policies.proofs.laws.keeping.Goals as goal

pub returns : goal.returns
returns c = record { held = held-is; good = good-cycle }
