use Rattle.planner_policies.proofs.Fits.{left-valid, valid-along}
use Rattle.planner_policies.proofs.laws.valid_states.Goals as goal

pub returns : goal.returns
returns c = record { next = left-valid; along = valid-along }
