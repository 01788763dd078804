use Rattle.planner_policies.specs.Plan.{pending_in}
use Rattle.planner_policies.proofs.Filling.{taken-all}
use Rattle.planner_policies.proofs.laws.all_that_fit.Goals as goal

pub returns : goal.returns
returns c = record {
  all = λ plan k before slot known fits here.
      taken-all plan.policy plan.window plan.placed k (pending_in plan.placed k before) plan.fill slot known fits here;
}
