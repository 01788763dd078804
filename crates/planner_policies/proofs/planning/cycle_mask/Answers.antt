use Rattle.std.proofs.Common.{arith}
use Rattle.std.proofs.lemmas.List.Sorted.{length_permutation}
use Rattle.planner_policies.proofs.planning.cycle_mask.Goals as goal

pub mask_of_rows-requires-clause-room : goal.mask_of_rows-requires-clause-room
mask_of_rows-requires-clause-room c = λ less.
    let few = c.if-rows-le-FEW.true in
    omega (arith, length_permutation c.args.ranked.now.placed c.rows.result.now c.rows.ensures.same)
