-- One recessive bit more.
use Rattle.std.proofs.Common.{arith}
use Rattle.bus_line.proofs.Recordings.{recessive_more}
use Rattle.bus_line.proofs.recording.next_dominant.Goals as goal

pub loop-place-preserved : goal.loop-place-preserved
loop-place-preserved c = record {
  order = omega (arith, c.loop-place.invariant.order);
  within = omega (arith, c.loop-place-test.true);
  idle = recessive_more c.args.bits.now c.args.from c.loop-place.place _ c.loop-place.invariant.order c.loop-place-test.true c.if-bits-place-eq-RECESSIVE.true c.loop-place.invariant.idle;
}
