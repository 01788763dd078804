use Rattle.std.proofs.lemmas.List.Sorted.{All-permutation}
use Rattle.requirement_table.specs.Table.{IsInRange}
use Rattle.planner_policies.proofs.ranking.Ranked.rows.Goals as goal

pub returns-clause-in_range : goal.returns-clause-in_range
returns-clause-in_range c =
    let inside = c.self.inside in
    rw c.as_slice.ensures.value
    (All-permutation IsInRange inside.placed.items inside.rows.items c.self.invariant.1 c.self.invariant.0.in_range)
