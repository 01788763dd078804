use Rattle.std.proofs.Common.{rules, refl}
use Rattle.bit_sets.specs.Sets.{has_bit}
use Rattle.planner_policies.specs.Due.{IsSetOf, left_of, taken_of}
use Rattle.planner_policies.specs.Plan.{planning_of}
use Rattle.planner_policies.proofs.Cycles.{planned-set, split-of}
use Rattle.planner_policies.proofs.DueSlots.{IsSplit}
use Rattle.planner_policies.proofs.planning.mask_of_rows.Goals as goal

pub line_of-line-requires : goal.line_of-line-requires
line_of-line-requires g c = let most = c.requires.most in (search rules, (c.requires.cycle, (c.requires.valid, c.requires.room)))

pub as_slice-requires : goal.as_slice-requires
as_slice-requires g c = let most = c.requires.most in search rules

pub returns : goal.returns
returns g c =
    let plan = planning_of c.args.ranked.now c.args.w c.args.state.now.cycle c.args.state.now.pending in
    let cycle = c.args.state.now.cycle in
    let before = has_bit c.args.state.now.pending in
    let line = c.line_of-line.result in
    let taken = taken_of plan.fill plan.window line in
    let left = left_of plan.fill plan.window line in
    let split : IsSplit plan cycle before taken left = split-of plan cycle before line plan.fill refl c.line_of-line.ensures.line in
    let made : IsSetOf c.plan_of_line.result.mask taken = rw (c.as_slice.ensures.list, c.fill.ensures.value) at c.plan_of_line.ensures.planned in
    record { planned = planned-set plan cycle before taken left split c.plan_of_line.result.mask made }
