use Rattle.std.proofs.Common.{◌≡◌, ◌+◌, drop, sym, ap, ◌∙◌, arith, add_assoc}
use Rattle.std.proofs.lemmas.List.{at_drop_all}
use Rattle.bit_sets.specs.Sets.{has_bit}
use Rattle.requirement_table.specs.Table.{width_in}
use Rattle.bus_trace.proofs.Width.{width-le, width-next, width-none}
use Rattle.bus_trace.proofs.entries.width.Goals as goal

pub overflow_add-width : goal.overflow_add-width
overflow_add-width c =
    let all = width-le c.args.placed.now c.args.cycle (has_bit c.args.mask) c.requires.placed in
    let so_far = c.loop-p.invariant.so_far in
    let few = c.cost_in-width.ensures.range in
    omega arith

pub loop-p-preserved : goal.loop-p-preserved
loop-p-preserved c =
    let next = width-next c.args.placed.now c.loop-p.p-index _ c.args.cycle (has_bit c.args.mask) c.loop-p-test.true c.loop-p.invariant.well in
    let so_far = c.loop-p.invariant.so_far in
    let cost = c.cost_in-width.ensures.cost in
    let step = next.0 in
    record {
      so_far = ap (λ x. c.loop-p.width + x + width_in (drop (c.loop-p.p-index + 1) c.args.placed.now) c.args.cycle (has_bit c.args.mask)) cost
          ∙ add_assoc _ _ _ ∙ ap (λ x. c.loop-p.width + x) (sym step) ∙ so_far;
      well = next.1;
    }

pub returns : goal.returns
returns c =
    let flagged = has_bit c.args.mask in
    let so_far = c.loop-p.invariant.so_far in
    let rest : width_in (drop c.loop-p.p-index c.args.placed.now) c.args.cycle flagged ≡ 0 =
    at_drop_all (λ l. width_in l c.args.cycle flagged) c.args.placed.now c.loop-p.p-index c.loop-p-test.false ∙ width-none c.args.cycle flagged in
    record { width = omega arith }
