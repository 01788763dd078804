use Rattle.std.proofs.Common.{rules, sym}
use Rattle.fttcan_top.proofs.StreamedLemmas.{polled-cut, polled-told}
use Rattle.fttcan_top.proofs.streamed.write_polled.Goals as goal

pub returns-in_err-accepted-clause-cut : goal.returns-in_err-accepted-clause-cut
returns-in_err-accepted-clause-cut g c =
    let job = c.args.job.now in
    let streams = c.args.streams in
    let all = polled-cut job streams (g.O.Sink.told_bytes c.args.out.now) (g.O.Sink.told_bytes c.replay_polled.new.out)
    c.in_err-accepted.field-0.0
    (λ history whole carried again trace frames. c.rows_so_far.ensures.front job.system job.steps streams history whole carried again
    trace frames c.requires.job.system)
    (rw (sym c.as_slice.ensures.list, sym c.into_vec-streams.ensures.list) c.in_err-accepted.ensures.cut) in
    search (rules, all)

pub returns-clause-tells : goal.returns-clause-tells
returns-clause-tells g c =
    polled-told c.args.job.now c.args.streams (g.O.Sink.told_bytes c.args.out.now) (g.O.Sink.told_bytes c.replay_polled.new.out)
    c.in_ok-accepted.accepted c.status_when.result (rw (sym c.as_slice.ensures.list, sym c.into_vec-streams.ensures.list) c.in_ok-accepted.ensures.written)
    c.status_when.ensures.status
