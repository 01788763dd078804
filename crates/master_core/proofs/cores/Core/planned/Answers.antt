use Rattle.std.proofs.Common.{ap, ◌∙◌}
use Rattle.planner_policies.specs.Plan.{mask_at}
use Rattle.master_core.specs.Cores.{CoreView, onward}
use Rattle.master_core.proofs.NextPlan.{ranked-mask, ranked-valid}
use Rattle.master_core.proofs.cores.Core.planned.Goals as goal

pub cycle_mask-requires-clause-valid : goal.cycle_mask-requires-clause-valid
cycle_mask-requires-clause-valid c = rw c.ranked.ensures.ranking (ranked-valid _ _ _ c.self.invariant.0 c.self.invariant.1)

pub returns : goal.returns
returns c = record {
  mask =
      rw (← c.ranked.ensures.ranking) c.cycle_mask.ensures.planned
      ∙ ranked-mask _ _ _ c.self.invariant.0 c.self.invariant.1
      ∙ ap (λ (v : CoreView). mask_at (onward v) 0) c.self.view_is;
}
