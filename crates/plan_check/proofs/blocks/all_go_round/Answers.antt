use Rattle.std.proofs.Common.{arith}
use Rattle.plan_check.proofs.AllRound.{all-round}
use Rattle.plan_check.proofs.blocks.all_go_round.Goals as goal

pub returns : goal.returns
returns c = record {
  round = λ _. all-round c.args.placed.now c.args.first c.args.length c.args.slots c.args.places.now c.requires.well_placed c.requires.below c.requires.current
      (λ slot known. c.loop-slot.invariant slot (let end = c.loop-slot-test.false in omega arith));
}
