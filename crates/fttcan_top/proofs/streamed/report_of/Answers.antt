use Rattle.std.proofs.Common.{◌≡◌, ◌∙◌, ap, subst}
use Rattle.std.proofs.lemmas.Result.{IfOk-weaker}
use Rattle.plan_report.specs.Report.{report_text}
use Rattle.replay_run.specs.Progress.{KeepsFrames}
use Rattle.fttcan_top.specs.Ends.{IsOfReport}
use Rattle.fttcan_top.proofs.streamed.report_of.Goals as goal

pub returns-in-None : goal.returns-in-None
returns-in-None c = record { report = λ trace kept. rw c.in-None.is c.new.ensures.items }

pub returns-in-Some-into_master : goal.returns-in-Some-into_master
returns-in-Some-into_master c =
    let run = c.args.run in
    let owners = c.args.owners.now in
    let requests = c.args.requests.now in
    let master = c.in-Some-into_master.master in
    let history = rw c.in-Some-into_master.is at c.into_master.ensures.history in
    record {
      report = IfOk-weaker c.report.result (λ text. text.items ≡ report_text master.history c.as_slice.result.now owners requests)
          (λ text. IsOfReport run owners requests (λ report. text.items ≡ report))
          (λ text same trace kept.
          let frames : c.in-Some.trace.items ≡ trace = subst (λ is. KeepsFrames is trace) c.in-Some.is kept in
          rw c.in-Some.is
          (same ∙ ap (λ list. report_text list c.as_slice.result.now owners requests) history
          ∙ ap (λ list. report_text run.master.history list owners requests) (c.as_slice.ensures.value ∙ frames)))
          c.report.ensures.text;
    }
