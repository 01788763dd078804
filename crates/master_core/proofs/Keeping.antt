-- What holds of the list and the state of a master that keeps all placed entries.
use Rattle.std.proofs.Common.{ℕ, List, Option, sym, subst}
use Rattle.requirement_table.specs.declared.entries.Placed.{Placed}
use Rattle.requirement_table.specs.Table.{IsWellPlaced}
use Rattle.planner_policies.specs.Plan.{NeverMisses, Ranking}
use Rattle.admission_rules.specs.declared.Rules.{Rules}
use Rattle.master_core.specs.declared.event.Event.{Event}
use Rattle.master_core.specs.History.{plan_of}
use Rattle.master_core.specs.Keeping.{IsMasterKept}
use Rattle.master_core.proofs.Legal.{sound-of_legal}

module _ (rules : Rules) (history : List Event) (list : List Placed) (since : ℕ) (ranked : Ranking) (cycle pending : ℕ) (learned : Option (List Placed))
    (kept : IsMasterKept rules history list since ranked cycle pending learned) where
  pub kept-well_placed : IsWellPlaced list
  kept-well_placed = subst IsWellPlaced (sym kept.placed) (sound-of_legal rules history kept.legal).well_placed

  pub kept-in_time : NeverMisses (plan_of rules list)
  kept-in_time = subst (λ (l : List Placed). NeverMisses (plan_of rules l)) (sym kept.placed) (sound-of_legal rules history kept.legal).in_time
