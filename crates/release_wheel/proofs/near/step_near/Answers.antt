use Rattle.std.proofs.Common.{refl, sym, subst}
use Rattle.planner_policies.specs.Plan.{IsValid}
use Rattle.release_wheel.specs.Wheel.{IsWheelKept}
use Rattle.release_wheel.proofs.NearPlans.{onward-after, rows-onward, stepped-missed, stepped-planned, valid-after}
use Rattle.release_wheel.proofs.near.step_near.Goals as goal

pub returns-clause-planned : goal.returns-clause-planned
returns-clause-planned c =
    let came = c.come_near.ensures in
    let mid = c.come_near.new.wheel in
    stepped-planned c.args.ranked.now c.at_wheel.result.now c.come_near.new.near c.args.w c.args.wheel.now mid c.step.new.wheel c.step.result
    c.placed.ensures.well_placed came.cycle came.slots c.at_wheel.ensures.entries came.rows c.step.ensures.planned

pub returns-clause-missed : goal.returns-clause-missed
returns-clause-missed c =
    let came = c.come_near.ensures in
    let mid = c.come_near.new.wheel in
    stepped-missed c.args.ranked.now c.at_wheel.result.now c.come_near.new.near c.args.w c.args.wheel.now mid c.step.new.wheel c.step.result
    c.placed.ensures.well_placed came.cycle came.slots c.at_wheel.ensures.entries came.rows c.step.ensures.missed

pub returns-clause-standing : goal.returns-clause-standing
returns-clause-standing c =
    let all = c.args.ranked.now in
    let near = c.come_near.new.near in
    let came = c.come_near.ensures in
    let old = c.args.wheel.now in
    let mid = c.come_near.new.wheel in
    let new = c.step.new.wheel in
    let well = c.placed.ensures.well_placed in
    let made = c.step.ensures in
    let valid : IsValid all.placed mid.cycle mid.dues.waiting.slots = subst (λ s. IsValid all.placed mid.cycle s) (sym came.slots)
    (subst (λ at. IsValid all.placed at old.dues.waiting.slots) (sym came.cycle) c.requires.standing.valid) in
    let planned = stepped-planned all c.at_wheel.result.now near c.args.w mid mid new c.step.result well refl refl c.at_wheel.ensures.entries came.rows made.planned in
    record {
      end = made.kept.near;
      valid = valid-after all near c.args.w mid new well valid c.step.result planned made.next made.same_cycle made.same_slots;
      rows = rows-onward all near mid new came.rows (onward-after all near c.args.w mid new well valid c.step.result made.next made.same_cycle)
          (subst (λ r. IsWheelKept r new) c.at_wheel.ensures.entries made.kept);
    }
