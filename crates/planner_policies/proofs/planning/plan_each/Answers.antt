use Rattle.std.proofs.Common.{rules}
use Rattle.planner_policies.proofs.planning.plan_each.Goals as goal

pub returns-in-None-clause-planned : goal.returns-in-None-clause-planned
returns-in-None-clause-planned c = record {
  planned = search rules;
  cost = search rules;
  fits = search rules;
  left = search rules;
  none_missed = search rules;
}
