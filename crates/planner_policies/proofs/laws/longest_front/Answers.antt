use Rattle.planner_policies.proofs.FrontExists.{front-exists}
use Rattle.planner_policies.proofs.Longest.{left-iff, planned-iff}
use Rattle.planner_policies.proofs.laws.longest_front.Goals as goal

pub returns : goal.returns
returns c = record { planned = planned-iff; left = left-iff; there = front-exists }
