use Rattle.std.proofs.Common.{arith}
use Rattle.std.proofs.Math.ListN.{length-set}
use Rattle.plan_check.proofs.Filled.{emptied-next}
use Rattle.plan_check.proofs.blocks.clear.Goals as goal

pub loop-i-preserved : goal.loop-i-preserved
loop-i-preserved c = grind (arith, length-set, emptied-next)

pub returns : goal.returns
returns c =
    let all = c.loop-i-test.false in
    record {
      clear = λ slot. let clear = c.loop-i.invariant.clear slot in record {
        released = λ i below. clear.released i (omega arith);
        ends = λ i below. clear.ends i (omega arith);
      };
    }
