use Rattle.bus_trace.proofs.RowEnds.{end-row, event-rows, rows-append}
use Rattle.bus_trace.proofs.RowLemmas.{rows-counted, tail-again, tail-longer, tail-shorter}
use Rattle.bus_trace.proofs.laws.rows_are_whole.Goals as goal

pub returns : goal.returns
returns c = record {
  event = event-rows;
  end = end-row;
  both = rows-append;
  counted = rows-counted;
  tails = tail-longer;
  same = tail-again;
  enough = tail-shorter;
}
