-- One frame more, and the recessive bits behind it.
use Rattle.std.proofs.Common.{arith}
use Rattle.bus_line.proofs.Recordings.{recorded_on}
use Rattle.bus_line.proofs.recording.read.Goals as goal

pub loop-place-preserved : goal.loop-place-preserved
loop-place-preserved c =
    let inner = c.next_dominant-place-in-loop-place.ensures in
    record {
      within = inner.within;
      recorded =
          rw c.in_ok-push.ensures.items
          (recorded_on c.loop-place.trace.items c.args.bits.now c.loop-place.place c.next_dominant-place-in-loop-place.result c.in_ok-sent.sent c.loop-place.invariant.within c.loop-place.invariant.recorded
          c.in_ok-sent.ensures.stands inner.order inner.idle);
      stands = inner.stands;
    }

pub loop-place-smaller : goal.loop-place-smaller
loop-place-smaller c = omega (arith, c.loop-place-test.true, c.in_ok-sent.ensures.long, c.next_dominant-place-in-loop-place.ensures.order)
