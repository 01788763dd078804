use Rattle.std.proofs.Common.{refl}
use Rattle.fttcan_top.specs.Summary.{summary_text}
use Rattle.fttcan_top.proofs.summary.summary_of.Goals as goal

pub returns : goal.returns
unfolding summary_text
returns c =
    let calls = c.answered-accepted.ensures in
    let counts = c.counted-synchronous.ensures in
    record {
      text =
          rw (c.in_ok-push_str.ensures.bytes, c.in_ok-writeln-8.ensures.bytes, c.in_ok-writeln-7.ensures.bytes, c.in_ok-writeln-6.ensures.bytes)
          (rw (c.in_ok-writeln-5.ensures.bytes, c.in_ok-writeln-4.ensures.bytes, c.in_ok-writeln-3.ensures.bytes, c.in_ok-writeln-2.ensures.bytes)
          (rw (c.in_ok-writeln.ensures.bytes, c.new-text.ensures.bytes, c.saturating_sub-left.ensures, calls.accepted)
          (rw (calls.refused, calls.opened, counts.synchronous, counts.asynchronous, counts.busy) refl)));
    }
