use Rattle.std.proofs.Common.{◌≡◌, ◌+◌, ◌++◌, ◌∷◌, drop}
use Rattle.bus_trace.specs.LogRows.{plan_told}
use Rattle.trace_audit.proofs.event_rows.rows_of_change.Given as goal

abbrev pub invariant-loop-number : goal.invariant-loop-number
invariant-loop-number l = record {
  so_far : l.rows.items ++ plan_told (l.from + l.number) (drop l.number l.masks) ≡ l.fn.first ∷ plan_told l.from l.masks;
}
