use Rattle.std.proofs.Common.{subst}
use Rattle.requirement_table.specs.Instance.{bytes_of}
use Rattle.master_core.specs.History.{next_of}
use Rattle.master_core.specs.Openings.{openings_of}
use Rattle.cycle_engine.specs.Offered.{IsCanTrace}
use Rattle.cycle_engine.proofs.Shared.{bytes_of-whole}
use Rattle.kept_run.proofs.Shared.{bytes_of-forgets}
use Rattle.replay_run.specs.Run.{setting_of}
use Rattle.replay_run.proofs.Shared.{owner-of}
use Rattle.bus_trace.specs.LogRows.{log_rows}
use Rattle.trace_audit.proofs.OneRun.{is-setting, live-run, one-history}
use Rattle.trace_audit.proofs.laws.one_run_of_a_log.Goals as goal

pub returns-clause-runs : goal.returns-clause-runs
returns-clause-runs c = λ system steps requests one other trace second is legal run run2 same.
    let asynchronous = c.requests_of_owners.ensures.asynchronous system.owners requests is.are_owners
    (λ k d within. owner-of system.owners _ (legal.each k d within).owned) in
    let setting = setting_of system requests in
    let known = is-setting system requests is asynchronous in
    let history_is = one-history (record { same = c.one_verdict.ensures.same }) system steps requests one other trace second run run2 same in
    let way = c.legal_runs.ensures.under_way setting other second known bytes_of-whole run2.legal run2.can_trace in
    let kept = c.promise.ensures.kept setting other second known bytes_of-forgets way in (
      history_is,
      kept.only_trace trace
          (subst (λ h. IsCanTrace bytes_of system.layout requests (openings_of h) (next_of h) trace) history_is run.can_trace),
    )

pub returns-clause-live : goal.returns-clause-live
returns-clause-live c = λ system steps requests one other trace second live live2 same.
    let run = live-run system steps requests one trace live in
    let run2 = live-run system steps requests other second live2 in
    let history_is = one-history (record { same = c.one_verdict.ensures.same }) system steps requests one other trace second run run2 same in (
      history_is,
      live2.kept.only_trace trace
          (subst (λ h. IsCanTrace bytes_of system.layout requests (openings_of h) (next_of h) trace) history_is run.can_trace),
    )

pub returns-clause-text : goal.returns-clause-text
returns-clause-text c = λ system steps requests one other trace second bytes live live2 are are2.
    returns-clause-live c system steps requests one other trace second live live2
    (c.one_log.ensures.one bytes (log_rows one trace) (log_rows other second) are are2)
