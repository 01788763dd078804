use Rattle.std.proofs.Common.{◌≡◌, ℕ, not, nat_le, true, List, IsPermutation, ap, refl, ◌∙◌}
use Rattle.requirement_table.specs.declared.entries.Placed.{Placed}
use Rattle.requirement_table.specs.Table.{IsWellPlaced, is_over, near_of, not_over}
use Rattle.planner_policies.specs.declared.Policy.{Policy}
use Rattle.planner_policies.specs.Ranked.{AreRanked, is_ranked_by}
use Rattle.planner_policies.proofs.Pairs.{pairs-filter}
use Rattle.planner_policies.proofs.Filtered.{IsPermutation-filter}
use Rattle.planner_policies.proofs.ranking.Ranked.take_near.Goals as goal

near-ranked : (since until : ℕ) (policy policy' : Policy) (placed placed' rows rows' : List Placed) → policy' ≡ policy
    → placed' ≡ near_of since until placed → rows' ≡ near_of since until rows → IsWellPlaced (near_of since until placed)
    → IsPermutation placed rows → AreRanked policy rows → IsWellPlaced placed' × IsPermutation placed' rows' × AreRanked policy' rows'
near-ranked since until policy policy' placed placed' rows rows' same left left_rows well permuted ranked =
    rw (same, left, left_rows) (
      well,
      IsPermutation-filter (λ p. not (nat_le until p.origin)) (not_over since placed) (not_over since rows)
          (IsPermutation-filter (λ p. not (is_over since p)) placed rows permuted),
      pairs-filter (λ p q. is_ranked_by policy p q ≡ true) (λ p. not (nat_le until p.origin)) (not_over since rows)
          (pairs-filter (λ p q. is_ranked_by policy p q ≡ true) (λ p. not (is_over since p)) rows ranked),
    )

pub invariant_of-self : goal.invariant_of-self
invariant_of-self c =
    let all = c.args.all.now in
    let rows = c.rows-rows.ensures in
    near-ranked c.args.since c.args.until all.policy c.all.inside.policy all.placed c.put_near.new.list.items c.rows-rows.result.now
    c.put_near-then-put_near.new.list.items (ap (λ r. r.policy) c.all.view_is) (c.if-put_near.ensures.list refl ∙ ap (near_of c.args.since c.args.until) c.placed.ensures.list)
    (c.if-put_near-2.ensures.list refl)
    (c.entries_that_are_near.ensures.well_placed c.args.since c.args.until all.placed rows.well_placed) rows.same rows.order
