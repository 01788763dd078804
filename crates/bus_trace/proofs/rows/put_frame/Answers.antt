use Rattle.std.proofs.Common.{drop}
use Rattle.bus_trace.proofs.PutRows.{frame-put}
use Rattle.bus_trace.proofs.rows.put_frame.Goals as goal

pub returns-clause-row : goal.returns-clause-row
returns-clause-row c =
    frame-put c.args.sent.now _ _ _ (drop c.args.end c.args.rows.now) c.put_word.ensures.row c.put-place.ensures.row c.put_behind_its_start-place.ensures.row
