use Rattle.bus_trace.proofs.RowLemmas.{NoFeedBelow}
use Rattle.bus_trace.proofs.recent.row_len.Given as goal

abbrev pub invariant-loop-place : goal.invariant-loop-place
invariant-loop-place l = NoFeedBelow l.place l.text
