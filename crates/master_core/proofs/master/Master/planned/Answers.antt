use Rattle.std.proofs.Common.{ap, ◌∙◌, sym}
use Rattle.planner_policies.specs.Plan.{mask_at}
use Rattle.master_core.specs.History.{next_of, placed_of, plan_of}
use Rattle.master_core.specs.Keeping.{MasterView}
use Rattle.master_core.proofs.States.{mask-is}
use Rattle.master_core.proofs.master.Master.planned.Goals as goal

pub returns : goal.returns
returns c = record {
  mask =
      c.planned.ensures.mask
      ∙ sym (mask-is _ _ _ c.known.ensures.core c.self.invariant.0)
      ∙ ap (mask_at (plan_of c.self.inside.core.rules (placed_of c.self.inside.history.items))) c.self.invariant.0.next
      ∙ ap (λ (v : MasterView). mask_at (plan_of v.rules (placed_of v.history)) (next_of v.history)) c.self.view_is;
}
