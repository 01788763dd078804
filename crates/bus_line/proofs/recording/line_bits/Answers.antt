-- One frame more, and at the end the recessive bits behind the last one.
use Rattle.bus_line.proofs.Recordings.{Written, written_next, written_whole}
use Rattle.bus_line.proofs.recording.line_bits.Goals as goal

pub loop-sent-preserved : goal.loop-sent-preserved
loop-sent-preserved c =
    let before : Written c.args.trace.now c.loop-sent.sent-index c.args.from c.args.until c.loop-sent.bits.items = record { recorded = c.loop-sent.invariant.recorded; few = c.loop-sent.invariant.few; free = c.loop-sent.invariant.free } in
    let next = written_next c.args.trace.now c.loop-sent.sent-index c.args.from c.args.until c.loop-sent.bits.items c.push_sent.new.bits.items c.sent-item.result c.requires.ordered c.requires.within
    before c.loop-sent-test.true c.sent-item.is c.in_ok-push_sent.ensures.legal c.in_ok-push_sent.ensures.bits in
    record { recorded = next.recorded; few = next.few; free = next.free }

pub returns : goal.returns
returns c =
    let before : Written c.args.trace.now c.loop-sent.sent-index c.args.from c.args.until c.loop-sent.bits.items = record { recorded = c.loop-sent.invariant.recorded; few = c.loop-sent.invariant.few; free = c.loop-sent.invariant.free } in
    record {
      recorded =
          written_whole c.args.trace.now c.loop-sent.sent-index _ c.args.from c.args.until c.loop-sent.bits.items c.push_idle.new.bits.items before c.loop-sent-test.false c.requires.within
          c.saturating_sub-count.ensures c.in_ok-push_idle.ensures.bits;
    }
