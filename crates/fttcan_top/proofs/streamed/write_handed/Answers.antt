use Rattle.std.proofs.Common.{false, rules, sym}
use Rattle.asked_files.specs.declared.tasks.Task.{Task}
use Rattle.fttcan_top.proofs.StreamedLemmas.{handed-told, run-cut}
use Rattle.fttcan_top.proofs.streamed.write_handed.Goals as goal

pub returns-in_err-accepted-clause-cut : goal.returns-in_err-accepted-clause-cut
returns-in_err-accepted-clause-cut g c =
    let job = c.args.job.now in
    let all = run-cut job (Task.Handover job c.args.at) false (g.O.Sink.told_bytes c.args.out.now) (g.O.Sink.told_bytes c.replay_handed.new.out)
    c.in_err-accepted.field-0.0 (λ status text is. is) (λ is. is)
    (λ history whole trace frames. c.rows_so_far.ensures.front job.system job.steps job.requests history whole trace frames
    c.requires.job.system c.requires.job.requests)
    (rw (sym c.as_slice-steps.ensures.list, sym c.as_slice-requests.ensures.list) c.in_err-accepted.ensures.cut) in
    search (rules, all)

pub returns-clause-tells : goal.returns-clause-tells
returns-clause-tells g c =
    handed-told c.args.job.now c.args.at (g.O.Sink.told_bytes c.args.out.now) (g.O.Sink.told_bytes c.replay_handed.new.out)
    c.in_ok-accepted.accepted c.status_when.result
    (rw (sym c.as_slice-steps.ensures.list, sym c.as_slice-requests.ensures.list) c.in_ok-accepted.ensures.written) c.status_when.ensures.status
