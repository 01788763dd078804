use Rattle.std.proofs.Common.{◌≡◌, ◌≤◌, ℕ, ◌<◌, arith}
use Rattle.bit_sets.specs.Sets.{has_bit, most_slots}
use Rattle.plan_check.specs.Cycles.{missed_in, unreleased_in, width_of}
use Rattle.plan_check.specs.PlanKept.{NoSlot}
use Rattle.plan_check.proofs.CycleSteps.{cycle-missed, ends-missed, least-same, none-same}
use Rattle.plan_check.proofs.checking.check_cycle.Goals.{After-least-2}
use Rattle.plan_check.proofs.checking.check_cycle.Goals as goal

-- no slot is flagged that has no instance
all-held : (c : After-least-2) → NoSlot (unreleased_in c.args.released c.args.held c.args.mask)
all-held c = grind (arith, none-same)

all-fit : (c : After-least-2) → width_of c.args.costs.now c.args.mask ≤ c.args.w
all-fit c = omega (arith, c.width-sum.ensures.width, c.if-sum-w.false)

-- the slots that are left in their last cycle are those that are missed
are-missed : (c : After-least-2) → (slot : ℕ) → slot < most_slots
    → has_bit c.common.result slot ≡ missed_in c.args.released c.args.ends c.args.held c.args.mask slot
are-missed c slot h0 = grind (arith, ends-missed)

pub returns-in-Some-least-clause-breach : goal.returns-in-Some-least-clause-breach
returns-in-Some-least-clause-breach c = grind (arith, cycle-missed, all-held, all-fit, least-same, are-missed)

pub returns-in-None-clause-good : goal.returns-in-None-clause-good
returns-in-None-clause-good c = grind (arith, all-held, all-fit, none-same, are-missed)

pub returns-in-None-clause-held : goal.returns-in-None-clause-held
returns-in-None-clause-held c = grind arith
