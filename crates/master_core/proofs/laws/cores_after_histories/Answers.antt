use Rattle.std.proofs.Common.{◌+◌, ◌∙◌, ℕ, ap, sym}
use Rattle.planner_policies.specs.Plan.{mask_at}
use Rattle.master_core.specs.History.{placed_of, plan_of}
use Rattle.master_core.proofs.States.{masks-are, state-order}
use Rattle.master_core.proofs.laws.cores_after_histories.Goals as goal

pub returns : goal.returns
returns c = record {
  masks = λ history core n is of.
      sym (masks-are core.forgets history core is of n) ∙ ap (λ (k : ℕ). mask_at (plan_of core.rules (placed_of history)) (k + n)) of.next;
  order = λ history core order is of by. state-order core.forgets history core is of order by;
}
