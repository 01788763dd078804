use Rattle.std.proofs.Common.{rules, Some, refl}
use Rattle.std.specs.Result.{IfErr, IfOk}
use Rattle.std.proofs.lemmas.Result.{IfErr-weaker, IfOk-weaker}
use Rattle.bit_sets.specs.Sets.{has_bit}
use Rattle.planner_policies.specs.Due.{IsLeastMissed, IsLineTaken, IsPlanned, left_of, taken_of}
use Rattle.planner_policies.specs.Plan.{IsMissIn, planning_of}
use Rattle.planner_policies.proofs.Cycles.{line-planned, miss-is, split-of}
use Rattle.planner_policies.proofs.DueSlots.{IsSplit}
use Rattle.planner_policies.proofs.planning.plan_rows.Goals as goal

pub line_of-line-requires : goal.line_of-line-requires
line_of-line-requires g c = let most = c.requires.most in (search rules, (c.requires.cycle, (c.requires.valid, c.requires.room)))

pub as_slice-requires : goal.as_slice-requires
as_slice-requires g c = let most = c.requires.most in search rules

pub returns-clause-planned : goal.returns-clause-planned
returns-clause-planned g c =
    let plan = planning_of c.args.ranked.now c.args.w c.args.state.now.cycle c.args.state.now.pending in
    let cycle = c.args.state.now.cycle in
    let before = has_bit c.args.state.now.pending in
    let line = c.line_of-line.result in
    let made : IfOk c.plan_line.result (λ r. IsLineTaken plan.fill plan.window line cycle r.mask r.width r.next.pending)
    = rw (c.as_slice.ensures.list, c.fill.ensures.value) at c.plan_line.ensures.planned in
    IfOk-weaker c.plan_line.result (λ r. IsLineTaken plan.fill plan.window line cycle r.mask r.width r.next.pending)
    (λ r. IsPlanned plan cycle before r.mask r.width r.next.pending)
    (λ r made. line-planned plan cycle before line r.mask r.width r.next.pending c.line_of-line.ensures.line made) made

pub returns-clause-missed : goal.returns-clause-missed
returns-clause-missed g c =
    let plan = planning_of c.args.ranked.now c.args.w c.args.state.now.cycle c.args.state.now.pending in
    let cycle = c.args.state.now.cycle in
    let before = has_bit c.args.state.now.pending in
    let line = c.line_of-line.result in
    let taken = taken_of plan.fill plan.window line in
    let left = left_of plan.fill plan.window line in
    let split : IsSplit plan cycle before taken left = split-of plan cycle before line plan.fill refl c.line_of-line.ensures.line in
    let least : IfErr c.plan_line.result (λ miss. IsLeastMissed cycle left (Some miss)) = rw (c.as_slice.ensures.list, c.fill.ensures.value) at c.plan_line.ensures.missed in
    IfErr-weaker c.plan_line.result (λ miss. IsLeastMissed cycle left (Some miss)) (λ miss. IsMissIn plan cycle before miss.slot miss.release)
    (λ miss least. miss-is plan cycle before taken left split miss least) least
