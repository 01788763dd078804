use Rattle.std.proofs.Common.{◌++◌, [], sym, ap, ◌∙◌, subst}
use Rattle.master_core.specs.History.{next_of}
use Rattle.bus_trace.specs.Log.{log_text}
use Rattle.bus_trace.specs.LogRows.{events_told, log_rows}
use Rattle.log_reader.specs.Row.{AreRowsOf}
use Rattle.trace_audit.proofs.Behind.{go-events, same-front}
use Rattle.trace_audit.proofs.laws.one_run_of_a_text.Goals as goal

pub returns : goal.returns
returns c = record {
  runs = λ system steps requests one other trace second after later live live2 are are2 same.
      let text = c.logs_are_rows.ensures.rows one trace in
      let text2 = c.logs_are_rows.ensures.rows other second in
      let (texts, behind) = same-front (events_told trace [] one) (events_told second [] other) (next_of one) (next_of other)
      after later (go-events trace [] one) (go-events second [] other) are.0 are2.0
      (ap (λ l. l ++ after) (sym text) ∙ same ∙ ap (λ l. l ++ later) text2) in
      let whole = text ∙ texts ∙ sym text2 in
      let run = c.one_run_of_a_log.ensures.text system steps requests one other trace second (log_text other second) live live2
      (subst (λ l. AreRowsOf l (log_rows one trace)) whole are) are2 in
      (ap (λ h. log_rows h trace) run.0 ∙ ap (log_rows other) run.1, run.0, run.1, behind);
}
