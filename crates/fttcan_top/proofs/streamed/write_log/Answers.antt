use Rattle.std.proofs.Common.{None, rules, sym}
use Rattle.asked_files.specs.declared.tasks.Task.{Task}
use Rattle.fttcan_top.proofs.StreamedLemmas.{log-told, report-cut, run-cut}
use Rattle.fttcan_top.proofs.streamed.write_log.Goals as goal

pub returns-in_err-run-clause-cut : goal.returns-in_err-run-clause-cut
returns-in_err-run-clause-cut g c =
    let job = c.args.job.now in
    let all = run-cut job (Task.Log job None c.args.report) c.args.report (g.O.Sink.told_bytes c.args.out.now) (g.O.Sink.told_bytes c.replay_to.new.out)
    c.in_err-run.field-0.0 (λ status text is. is) (λ is. is)
    (λ history whole trace frames. c.rows_so_far.ensures.front job.system job.steps job.requests history whole trace frames
    c.requires.job.system c.requires.job.requests)
    (rw (sym c.as_slice-steps.ensures.list, sym c.as_slice-requests.ensures.list) c.in_err-run.ensures.cut) in
    search (rules, all)

pub returns-in_err-put_report-clause-cut : goal.returns-in_err-put_report-clause-cut
returns-in_err-put_report-clause-cut g c =
    let all = report-cut c.args.job.now c.args.report c.in_ok-run.run' c.in_ok-run.ensures.kept (g.O.Sink.told_bytes c.args.out.now)
    (g.O.Sink.told_bytes c.replay_to.new.out) (g.O.Sink.told_bytes c.put_report.new.out)
    (rw (sym c.as_slice-steps.ensures.list, sym c.as_slice-requests.ensures.list) c.in_ok-run.ensures.written)
    (rw (sym c.as_slice-owners.ensures.list, sym c.as_slice-requests.ensures.list) c.in_err-put_report.ensures.prefix) in
    search (rules, all)

pub returns-clause-tells : goal.returns-clause-tells
returns-clause-tells g c =
    rw (c.status_when.ensures.status, c.all_accepted-accepted.ensures.test)
    (log-told c.args.job.now c.args.report c.in_ok-run.run' c.in_ok-run.ensures.kept (g.O.Sink.told_bytes c.args.out.now)
    (g.O.Sink.told_bytes c.replay_to.new.out) (g.O.Sink.told_bytes c.put_report.new.out)
    (rw (sym c.as_slice-steps.ensures.list, sym c.as_slice-requests.ensures.list) c.in_ok-run.ensures.written)
    (rw (sym c.as_slice-owners.ensures.list, sym c.as_slice-requests.ensures.list) c.in_ok-put_report.ensures.all))
