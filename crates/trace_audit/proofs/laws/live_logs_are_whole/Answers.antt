use Rattle.cycle_engine.proofs.Shared.{bytes_of-whole}
use Rattle.kept_run.proofs.Shared.{bytes_of-forgets}
use Rattle.replay_run.specs.Run.{setting_of}
use Rattle.replay_run.proofs.Shared.{owner-of}
use Rattle.bus_trace.specs.LogRows.{log_rows}
use Rattle.trace_audit.proofs.OneRun.{is-setting, live-whole, whole-faultless}
use Rattle.trace_audit.proofs.laws.live_logs_are_whole.Goals as goal

pub returns-clause-whole : goal.returns-clause-whole
returns-clause-whole c = live-whole

pub returns-clause-live : goal.returns-clause-live
returns-clause-live c = λ system steps requests rows is legal log.
    let asynchronous = c.requests_of_owners.ensures.asynchronous system.owners requests is.are_owners
    (λ k d within. owner-of system.owners _ (legal.each k d within).owned) in
    let setting = setting_of system requests in
    let known = is-setting system requests is asynchronous in
    let way = c.legal_runs.ensures.under_way setting log.history log.trace known bytes_of-whole log.run.legal log.run.can_trace in
    record { answers = log.whole; kept = c.promise.ensures.kept setting log.history log.trace known bytes_of-forgets way }

pub returns-clause-no_fault : goal.returns-clause-no_fault
returns-clause-no_fault c = λ system steps requests history trace fault is legal live break.
    let whole = live-whole system steps requests history trace live in
    whole-faultless system steps requests (log_rows history trace) fault
    (c.whole_logs_stand.ensures.stand system steps requests (log_rows history trace) is legal whole) whole break
