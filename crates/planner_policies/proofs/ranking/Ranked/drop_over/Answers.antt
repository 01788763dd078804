use Rattle.std.proofs.Common.{◌≡◌, not, true}
use Rattle.requirement_table.specs.Table.{is_over}
use Rattle.requirement_table.proofs.Shared.{not_over-well_placed}
use Rattle.planner_policies.specs.Ranked.{is_ranked_by}
use Rattle.planner_policies.proofs.Pairs.{pairs-filter}
use Rattle.planner_policies.proofs.Filtered.{IsPermutation-filter}
use Rattle.planner_policies.proofs.ranking.Ranked.drop_over.Goals as goal

pub invariant_of-self : goal.invariant_of-self
invariant_of-self c =
    let inside = c.self.inside in
    rw (c.drop_over.ensures.left, c.drop_over-2.ensures.left) (
      not_over-well_placed c.args.cycle inside.placed.items c.self.invariant.0,
      IsPermutation-filter (λ p. not (is_over c.args.cycle p)) inside.placed.items inside.rows.items c.self.invariant.1,
      pairs-filter (λ p q. is_ranked_by inside.policy p q ≡ true) (λ p. not (is_over c.args.cycle p)) inside.rows.items c.self.invariant.2,
    )
