use Rattle.planner_policies.proofs.Going.{state-left, state-miss, state-missed, state-planned}
use Rattle.planner_policies.proofs.laws.states.Goals as goal

pub returns : goal.returns
returns c = record { planned = state-planned; left = state-left; missed = state-missed; miss = state-miss }
