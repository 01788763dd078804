use Rattle.std.proofs.Common.{◌+◌, List, ℕ, ap, sym, subst, ◌∙◌, arith}
use Rattle.planner_policies.specs.Plan.{Standing, planning_of}
use Rattle.admission.specs.Course.{state_in}
use Rattle.admission.specs.Verdict.{IsPlannedUpTo}
use Rattle.admission.proofs.Planned.{none-at, planned-start, planned-step}
use Rattle.admission.proofs.Same.{held-from_tests}
use Rattle.admission.proofs.deciding.plan_cycles.Goals as goal

pub loop-count-init : goal.loop-count-init
loop-count-init c = grind (arith, planned-start, held-from_tests)

pub unreachable-requires : goal.unreachable-requires
unreachable-requires c =
    let walk = c.args.walk.now in
    let missed = rw c.loop-count.invariant.entries at c.in-Err.ensures.missed in
    let none = none-at walk.start.now.ranking walk.window walk.first.cycle walk.first.pending c.loop-count.count c.args.cycles (state_in c.loop-count.planner)
    c.loop-count.invariant.planned.state c.loop-count-test.true c.requires.none_missed in
    let not = none c.in-Err.field-0.slot missed.known in
    let is = missed.missed in
    cc

pub plan_empty-requires-clause-planned : goal.plan_empty-requires-clause-planned
plan_empty-requires-clause-planned c =
    let walk = c.args.walk.now in
    let next = c.in-Ok.ensures.next in
    subst
    (λ (items : List ℕ). IsPlannedUpTo (planning_of walk.start.now.ranking walk.window walk.first.cycle walk.first.pending) (c.loop-count.count + 1) items (state_in c.step.new.self))
    (sym c.in_ok-push.ensures.items)
    (planned-step walk.start.now.ranking walk.window walk.first.cycle walk.first.pending c.loop-count.count c.in-Ok.planned.mask c.loop-count.masks.items
    c.loop-count.planner c.step.new.self c.loop-count.invariant.planned c.loop-count.invariant.entries c.in-Ok.ensures.planned next c.in-Ok.ensures.next_valid)

pub plan_empty-requires-clause-entries : goal.plan_empty-requires-clause-entries
plan_empty-requires-clause-entries c = ap (λ (s : Standing). s.ranking) c.in-Ok.ensures.next ∙ c.loop-count.invariant.entries

pub plan_empty-requires-clause-near : goal.plan_empty-requires-clause-near
plan_empty-requires-clause-near c = grind arith
