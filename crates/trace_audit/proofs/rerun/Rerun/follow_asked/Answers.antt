use Rattle.std.proofs.lemmas.Result.{IfOk-weaker}
use Rattle.bus_trace.specs.LogRows.{open_told}
use Rattle.log_reader.specs.Row.{opened_row}
use Rattle.log_reader.specs.declared.row.LogRow.TheVariants as row
use Rattle.log_reader.specs.declared.row.LogVerdict.TheVariants as told
use Rattle.trace_audit.proofs.rerun.Rerun.follow_asked.Goals as goal

pub returns-in-Change : goal.returns-in-Change
returns-in-Change c = record {
  on = λ system requests trace again.
      IfOk-weaker c.follow_change.result _ _
      (λ followed on yes. (row.Submit c.in-Change.caller c.in-Change.from (told.Passed 0 0), on yes))
      (c.follow_change.ensures.on system requests trace (told.Passed 0 0) again);
}

pub returns-in-Look : goal.returns-in-Look
returns-in-Look c = record {
  on = λ system requests trace again.
      IfOk-weaker c.follow_look.result _ _ (λ followed on yes. (row.Look c.in-Look.caller 0, on yes))
      (c.follow_look.ensures.on system requests trace 0 again);
}

pub returns-in-Opening : goal.returns-in-Opening
returns-in-Opening c = record {
  on = λ system requests trace again.
      IfOk-weaker c.follow_opening.result _ _ (λ followed on yes. (opened_row (open_told 0 0 0), on yes))
      (c.follow_opening.ensures.on system requests trace (open_told 0 0 0) again);
}
