use Rattle.planner_policies.proofs.Going.{same-missed, same-pending, same-planned}
use Rattle.planner_policies.proofs.laws.same_instances.Goals as goal

pub returns : goal.returns
returns c = record { pending = same-pending; planned = same-planned; missed = same-missed }
