use Rattle.std.proofs.Common.{◌/◌, length, arith}
use Rattle.std.proofs.lemmas.Grind.{common_steps}
use Rattle.saved_state.proofs.Standing.{numbers-next}
use Rattle.saved_state.proofs.reading.numbers_in.Goals as goal

pub loop-preserved : goal.loop-preserved
loop-preserved c =
    let next = numbers-next (length c.args.bytes.now / 8) c.loop.counter c.loop.rest.now c.loop-test.true in
    record {
      list = grind (arith, common_steps, next);
      left = omega (arith, c.loop.invariant.left, c.split_at.ensures.back_len);
    }
