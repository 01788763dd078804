use Rattle.std.proofs.Common.{sym, arith}
use Rattle.bit_sets.specs.Sets.{has_bit, most_slots}
use Rattle.requirement_table.specs.Table.{worst_in}
use Rattle.bit_sets.proofs.Shared.{least-of, without-less}
use Rattle.bus_trace.proofs.Shared.{width-le}
use Rattle.plan_report.proofs.Widths.{sum-empty, sum-without}
use Rattle.plan_report.proofs.load.width.Goals as goal

pub loop-slot-init : goal.loop-slot-init
loop-slot-init c =
    let near = c.requires.near in
    record { later = omega (arith, near); so_far = λ k from below. omega arith; passed = c.requires.passed }

pub slot_cost-cost-requires-clause-slot : goal.slot_cost-cost-requires-clause-slot
slot_cost-cost-requires-clause-slot c = (least-of c.loop-slot.left c.in-Some.slot (sym c.in-Some.ensures.least)).0

pub overflow_add-bits : goal.overflow_add-bits
overflow_add-bits c =
    let least = least-of c.loop-slot.left c.in-Some.slot (sym c.in-Some.ensures.least) in
    let split = sum-without c.loop-slot.left c.without-left.result c.in-Some.slot (worst_in c.args.placed.now c.args.cycle) least.0 least.1 c.without-left.ensures.slots in
    let all = width-le c.args.placed.now c.args.cycle (has_bit c.args.mask) c.requires.well_placed in
    let so_far = c.loop-slot.invariant.so_far c.args.cycle (omega arith) c.loop-slot.invariant.later in
    let cost = c.slot_cost-cost.ensures.cost c.args.cycle (omega arith) c.slot_cost-cost.ensures.later in
    omega (arith, split, all, so_far, cost)

pub without-left-requires : goal.without-left-requires
without-left-requires c = (least-of c.loop-slot.left c.in-Some.slot (sym c.in-Some.ensures.least)).0

pub loop-slot-smaller : goal.loop-slot-smaller
loop-slot-smaller c =
    let least = least-of c.loop-slot.left c.in-Some.slot (sym c.in-Some.ensures.least) in
    without-less most_slots c.loop-slot.left c.without-left.result c.in-Some.slot least.0 c.known.ensures.below c.known-in-Some.ensures.below least.1 c.without-left.ensures.slots

pub loop-slot-preserved : goal.loop-slot-preserved
loop-slot-preserved c =
    let least = least-of c.loop-slot.left c.in-Some.slot (sym c.in-Some.ensures.least) in
    let later = c.slot_cost-cost.ensures.later in
    let before = c.loop-slot.invariant.later in
    record {
      later = omega (arith, later, before);
      so_far = λ k from below.
          let split = sum-without c.loop-slot.left c.without-left.result c.in-Some.slot (worst_in c.args.placed.now k) least.0 least.1 c.without-left.ensures.slots in
          let so_far = c.loop-slot.invariant.so_far k from (omega (arith, below)) in
          let cost = c.slot_cost-cost.ensures.cost k from (omega (arith, below)) in
          omega (arith, split, so_far, cost);
      passed = c.slot_cost-cost.ensures.passed;
    }

pub returns-clause-known : goal.returns-clause-known
returns-clause-known c = λ k from below.
    let none = sum-empty c.loop-slot.left (worst_in c.args.placed.now k) (sym c.in_default.ensures.least) in
    let so_far = c.loop-slot.invariant.so_far k from below in
    omega (arith, none, so_far)

pub returns-clause-width : goal.returns-clause-width
returns-clause-width c =
    let none = sum-empty c.loop-slot.left (worst_in c.args.placed.now c.args.cycle) (sym c.in_default.ensures.least) in
    let so_far = c.loop-slot.invariant.so_far c.args.cycle (omega arith) c.loop-slot.invariant.later in
    omega (arith, none, so_far)

pub returns-clause-range : goal.returns-clause-range
returns-clause-range c =
    let none = sum-empty c.loop-slot.left (worst_in c.args.placed.now c.args.cycle) (sym c.in_default.ensures.least) in
    let all = width-le c.args.placed.now c.args.cycle (has_bit c.args.mask) c.requires.well_placed in
    let so_far = c.loop-slot.invariant.so_far c.args.cycle (omega arith) c.loop-slot.invariant.later in
    omega (arith, none, all, so_far)
