use Rattle.planner_policies.proofs.Going.{on-missed, on-pending, on-planned}
use Rattle.planner_policies.proofs.laws.going_on.Goals as goal

pub returns : goal.returns
returns c = record { pending = on-pending; planned = on-planned; missed = on-missed }
