use Rattle.std.proofs.Common.{arith}
use Rattle.std.proofs.lemmas.List.Sorted.{length_permutation}
use Rattle.planner_policies.proofs.AllFitting.{all-planned}
use Rattle.planner_policies.proofs.planning.plan_pending.Goals as goal

pub returns-in-Some-clause-planned : goal.returns-in-Some-clause-planned
returns-in-Some-clause-planned c = grind (arith, all-planned)

pub plan_rows-requires-clause-room : goal.plan_rows-requires-clause-room
plan_rows-requires-clause-room c = grind (arith, length_permutation)
