use Rattle.std.proofs.Common.{◌≡◌, ◌+◌, ◌^◌, ◌<◌, ℕ, true, ap, ◌∙◌, arith}
use Rattle.std.proofs.lemmas.Bool.{both_ways}
use Rattle.requirement_table.specs.Table.{IsWellPlaced}
use Rattle.release_wheel.specs.declared.wheel.Wheel.{Wheel}
use Rattle.planner_policies.specs.Plan.{Ranking}
use Rattle.release_wheel.specs.Wheel.{IsOfRanking, IsPlannedOn, IsSameTable, IsWheelKept}
use Rattle.planner_policies.proofs.Shared.{left-valid}
use Rattle.release_wheel.proofs.wheel.step.Goals as goal

of-on : (ranking : Ranking) (old new : Wheel) → IsOfRanking ranking old → IsSameTable old new → IsOfRanking ranking new
of-on ranking old new of table = grind arith

table-on : (a b c : Wheel) → IsSameTable a b → IsSameTable b c → IsSameTable a c
table-on a b c one other = grind arith

-- what is planned when the releases are made, from before them on
planned-on : (ranking : Ranking) (window pending : ℕ) (old released new : Wheel) (mask width : ℕ) → released.cycle ≡ old.cycle → IsSameTable old released
    → IsPlannedOn ranking window pending released new mask width → IsPlannedOn ranking window pending old new mask width
planned-on ranking window pending old released new mask width cycle table on = grind (arith, table-on)

kept-on : (ranking : Ranking) (window : ℕ) (old new : Wheel) (mask width : ℕ) → IsWellPlaced ranking.placed → IsWheelKept ranking old → old.turns ≡ true
    → old.cycle < 2 ^ 42 → IsPlannedOn ranking window old.dues.waiting.slots old new mask width → IsWheelKept ranking new
kept-on ranking window old new mask width well kept turns near on = grind (arith, left-valid, both_ways, of-on)

pub returns-then-wheel-clause-planned : goal.returns-then-wheel-clause-planned
returns-then-wheel-clause-planned c = c.pass.ensures.planned c.args.w

pub returns-in-Some-clause-planned : goal.returns-in-Some-clause-planned
returns-in-Some-clause-planned c = grind (arith, planned-on)

pub returns-in-Some-clause-next : goal.returns-in-Some-clause-next
returns-in-Some-clause-next c = c.in-Some.ensures.planned.next ∙ ap (λ at. at + 1) c.release.ensures.cycle

pub returns-in-Some-clause-kept : goal.returns-in-Some-clause-kept
returns-in-Some-clause-kept c =
    let old = c.args.wheel.now in
    let ranking = c.args.ranked.now in
    let mask = c.in-Some.plan.mask in
    let width = c.in-Some.plan.width in
    kept-on ranking c.args.w old c.take.new.wheel mask width c.placed.ensures.well_placed c.requires.kept c.if-not-wheel.false c.requires.cycle
    (grind (arith, planned-on))
