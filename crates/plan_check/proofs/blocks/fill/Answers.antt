use Rattle.std.proofs.Common.{arith}
use Rattle.plan_check.proofs.Filled.{clear-next, filled-next, filled-whole}
use Rattle.plan_check.proofs.blocks.fill.Goals as goal

pub loop-slot-preserved : goal.loop-slot-preserved
loop-slot-preserved c = grind (arith, filled-next, clear-next)

pub returns : goal.returns
returns c = record {
  filled = filled-whole c.args.placed.now c.args.from c.args.count c.args.slots c.loop-slot.slot c.loop-slot.block c.requires.well_placed c.requires.below
      (let end = c.loop-slot-test.false in let within = c.loop-slot.auto.slot-end in omega arith) c.loop-slot.invariant.filled
      c.loop-slot.invariant.clear;
}
