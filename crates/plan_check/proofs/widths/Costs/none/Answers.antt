use Rattle.std.proofs.Common.{refl}
use Rattle.plan_check.proofs.CycleSteps.{no-costs}
use Rattle.plan_check.proofs.widths.Costs.none.Goals as goal

pub invariant_of-result : goal.invariant_of-result
invariant_of-result c = no-costs _ refl refl
