use Rattle.replay_run.proofs.RowsSoFar.{rows-begin}
use Rattle.replay_run.proofs.laws.rows_so_far.Goals as goal

pub returns : goal.returns
returns c = record {
  front = rows-begin (record {
    opens = record { cycles = c.opened_cycles.ensures.cycles };
    positive = c.wire_lengths.ensures.not_empty;
    history = c.beginnings.ensures.history;
    trace = c.beginnings.ensures.trace;
    under_way = c.runs_under_way.ensures.under_way;
  });
}
