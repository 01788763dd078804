-- The row of one frame more.
use Rattle.std.proofs.Common.{◌+◌, sym, subst, arith, rules, drop}
use Rattle.std.specs.List.{flat_map}
use Rattle.ftt_io.specs.Puts.{Puts, PutsPrefix}
use Rattle.ftt_io.proofs.Shared.{PutsUpTo-next, PutsUpTo-stops}
use Rattle.line_frames.specs.Rows.{frame_row}
use Rattle.line_frames.proofs.Pieces.{pieces-at}
use Rattle.line_frames.proofs.listing.put_frame_rows.Goals as goal

pub returns-in_err-write_all-clause-prefix : goal.returns-in_err-write_all-clause-prefix
returns-in_err-write_all-clause-prefix g c =
    let sent = c.sent-item.result in
    let row = c.frame_row.ensures.row in
    let all = PutsUpTo-stops (frame_row sent) (flat_map frame_row (drop (c.loop-sent.sent-index + 1) c.args.frames.now)) c.loop-sent.invariant.put
    (pieces-at frame_row c.args.frames.now c.loop-sent.sent-index sent sent c.loop-sent-test.true (sym c.sent-item.is))
    (subst (PutsPrefix (g.O.Sink.told_bytes c.loop-sent.out) (g.O.Sink.told_bytes c.write_all.new.sink)) row c.in_err-write_all.ensures.prefix) in
    search (rules, all)

pub loop-sent-preserved : goal.loop-sent-preserved
loop-sent-preserved g c =
    let sent = c.sent-item.result in
    let row = c.frame_row.ensures.row in
    record {
      put = PutsUpTo-next (frame_row sent) _ c.loop-sent.invariant.put
          (pieces-at frame_row c.args.frames.now c.loop-sent.sent-index sent sent c.loop-sent-test.true (sym c.sent-item.is))
          (subst (Puts (g.O.Sink.told_bytes c.loop-sent.out) (g.O.Sink.told_bytes c.write_all.new.sink)) row c.in_ok-write_all.ensures.all);
      faults = omega (arith, c.in_ok-write_all.ensures.faults_never_fall, c.loop-sent.invariant.faults);
    }
