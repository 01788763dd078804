use Rattle.std.proofs.Common.{arith}
use Rattle.planner_policies.proofs.TakenFront.{left-front, taken-front}
use Rattle.planner_policies.proofs.planning.plan_front.Goals as goal

pub returns-in-Some-clause-missed : goal.returns-in-Some-clause-missed
returns-in-Some-clause-missed c = grind (arith, left-front)

pub returns-in-None-clause-planned : goal.returns-in-None-clause-planned
returns-in-None-clause-planned c = grind (arith, taken-front, left-front)
