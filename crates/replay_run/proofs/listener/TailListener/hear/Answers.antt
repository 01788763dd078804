use Rattle.std.proofs.Common.{◌∙◌, ◌++◌, arith, length}
use Rattle.bus_trace.specs.EventRows.{rows_of_event}
use Rattle.bus_trace.specs.LastRows.{rows_in}
use Rattle.replay_run.proofs.Tails.{WholeRows, holds-put}
use Rattle.replay_run.proofs.listener.TailListener.hear.Goals as goal

pub returns-clause-heard : goal.returns-clause-heard
returns-clause-heard c =
    let whole = c.rows_are_whole.ensures in
    let laws : WholeRows = record { both = whole.both; counted = whole.counted; tails = whole.tails; same = whole.same; enough = whole.enough } in
    let rows = rows_of_event c.args.event.now c.args.frames.now in
    record {
      most = c.drop_older.ensures.most ∙ c.add.ensures.most;
      last = λ past has. c.drop_older.ensures.kept (past ++ rows)
          (holds-put laws past rows c.args.self.now c.add.new.self (length (rows_in rows)) c.add.ensures.older c.in_ok-add.ensures.newer
          c.in_ok-add.ensures.count c.add.ensures.most (whole.event c.args.event.now c.args.frames.now) (omega arith) has);
    }
