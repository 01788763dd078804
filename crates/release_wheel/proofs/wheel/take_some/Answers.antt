use Rattle.std.proofs.Common.{◌+◌, ◌-◌, ◌&&◌, not, ap, ◌∙◌, arith}
use Rattle.bit_sets.specs.Sets.{has_bit}
use Rattle.release_wheel.proofs.RowCycles.{some-on}
use Rattle.release_wheel.proofs.RowSums.{costs-small}
use Rattle.release_wheel.proofs.wheel.take_some.Goals as goal

pub overflow_add-wheel-2 : goal.overflow_add-wheel-2
overflow_add-wheel-2 c = grind (arith, costs-small)

pub overflow_sub-wheel : goal.overflow_sub-wheel
overflow_sub-wheel c = let parts = c.take_due-took.ensures.took.cost in omega arith

pub returns-clause-planned : goal.returns-clause-planned
returns-clause-planned c =
    let w = c.args.wheel.now in
    let pending = c.args.state.now.pending in
    let result = c.take_due-took.result in
    let part = c.take_due-took.ensures.took in
    let parts = part.cost in
    some-on c.args.ranked.now pending c.args.w w c.requires.ready part.line part.whole part.due result.left result.mask result.width
    c.difference-pending.result part.due_is part.left_is part.mask_is part.width_is part.fits c.known.ensures.below
    (λ slot. c.difference-pending.ensures.slots slot ∙ ap (λ b. b && not (has_bit result.mask slot)) (c.union-all.ensures.slots slot))
    c.in_ok-soonest.soonest (w.dues.waiting.cost + w.dues.always.cost - result.width) c.in_ok-soonest.ensures.in_time (omega arith)
