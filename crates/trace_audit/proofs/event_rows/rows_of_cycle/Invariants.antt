use Rattle.std.proofs.Common.{◌≡◌, ◌++◌, ◌∷◌, drop, map}
use Rattle.log_reader.specs.declared.row.LogRow.TheVariants as row
use Rattle.trace_audit.proofs.event_rows.rows_of_cycle.Given as goal

abbrev pub invariant-loop-timed : goal.invariant-loop-timed
invariant-loop-timed l = record {
  so_far : l.rows.items ++ map row.Frame (drop l.timed-index l.frames) ≡ l.fn.first ∷ map row.Frame l.frames;
}
