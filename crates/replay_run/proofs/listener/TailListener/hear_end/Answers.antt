use Rattle.std.proofs.Common.{arith}
use Rattle.std.proofs.lemmas.Result.{on_ok_weaker}
use Rattle.bus_trace.specs.Log.{end_row}
use Rattle.replay_run.proofs.Tails.{WholeRows, holds-put}
use Rattle.replay_run.proofs.listener.TailListener.hear_end.Goals as goal

pub returns-clause-heard : goal.returns-clause-heard
returns-clause-heard c =
    let whole = c.rows_are_whole.ensures in
    let laws : WholeRows = record { both = whole.both; counted = whole.counted; tails = whole.tails; same = whole.same; enough = whole.enough } in
    let count = c.add_end.ensures.count in
    on_ok_weaker c.add_end.result
    (λ newer. record {
      most = c.add_end.ensures.most;
      last = λ past has.
          holds-put laws past (end_row c.args.next) c.args.self.now c.add_end.new.self 0 c.add_end.ensures.older newer
          (omega (arith, count)) c.add_end.ensures.most (whole.end c.args.next) (omega arith) has;
    })
    c.add_end.ensures.newer
