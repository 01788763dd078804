use Rattle.std.proofs.Common.{◌+◌, drop, get_or, rules, subst, sym, refl, arith}
use Rattle.ftt_io.specs.Puts.{Puts, PutsPrefix}
use Rattle.ftt_io.proofs.Shared.{PutsUpTo-next, PutsUpTo-stops}
use Rattle.sporadic_poll.specs.declared.fate.Fate.TheVariants.{Waits}
use Rattle.poll_run.specs.RequestRows.{request_row, request_rows}
use Rattle.poll_run.proofs.Rows.{rows-at}
use Rattle.poll_run.proofs.request_rows.put_request_rows.Goals as goal

pub returns-in_err-write_all-clause-prefix : goal.returns-in_err-write_all-clause-prefix
returns-in_err-write_all-clause-prefix g c =
    let i = c.loop-place.place in
    let stream = c.index-streams-place.result in
    let fate = get_or c.args.fates.now i Waits in
    let row = c.request_row.ensures.row in
    let all = PutsUpTo-stops (request_row (i + 1) stream fate) (request_rows (i + 1 + 1) (drop (i + 1) c.args.streams.now) (drop (i + 1) c.args.fates.now))
    c.loop-place.invariant.put
    (rows-at (i + 1) c.args.streams.now c.args.fates.now i stream fate Waits c.loop-place-test.true c.requires.each (sym c.index-streams-place.is) refl)
    (subst (PutsPrefix (g.O.Sink.told_bytes c.loop-place.out) (g.O.Sink.told_bytes c.write_all.new.sink)) row c.in_err-write_all.ensures.prefix) in
    search (rules, all)

pub loop-place-preserved : goal.loop-place-preserved
loop-place-preserved g c =
    let i = c.loop-place.place in
    let stream = c.index-streams-place.result in
    let fate = get_or c.args.fates.now i Waits in
    let row = c.request_row.ensures.row in
    record {
      put = PutsUpTo-next (request_row (i + 1) stream fate) _ c.loop-place.invariant.put
          (rows-at (i + 1) c.args.streams.now c.args.fates.now i stream fate Waits c.loop-place-test.true c.requires.each (sym c.index-streams-place.is) refl)
          (subst (Puts (g.O.Sink.told_bytes c.loop-place.out) (g.O.Sink.told_bytes c.write_all.new.sink)) row c.in_ok-write_all.ensures.all);
      faults = omega (arith, c.in_ok-write_all.ensures.faults_never_fall, c.loop-place.invariant.faults);
    }
