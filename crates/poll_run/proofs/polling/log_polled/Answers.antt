use Rattle.std.proofs.Common.{rules}
use Rattle.std.specs.List.{flat_map}
use Rattle.replay_run.specs.Run.{calls_of}
use Rattle.replay_run.specs.Runs.{AnswersAll, AnswersFirst}
use Rattle.replay_run.specs.Whole.{IsCutOff, IsLogOf}
use Rattle.replay_run.proofs.Shared.{caused, cut-weaker, log-weaker, not-begun}
use Rattle.poll_run.specs.PolledRun.{polled_setting}
use Rattle.poll_run.specs.Polling.{IsPolledOnBus}
use Rattle.poll_run.specs.Whole.{IsPolledRunBegun, IsRunWithFates}
use Rattle.poll_run.proofs.Ended.{EndLaws, begun-at_once, begun-of, heard-of, run-of, start}
use Rattle.poll_run.proofs.polling.log_polled.Goals as goal

pub returns-in_err-polled-clause-cut : goal.returns-in_err-polled-clause-cut
returns-in_err-polled-clause-cut g c =
    let laws : EndLaws = record { rides = record { is = c.one_ride.ensures.is; at = c.rides_of_openings.ensures.at; cycles = c.opened_cycles.ensures.cycles }; kept = c.promise.ensures.kept } in
    let system = c.args.system.now in
    let steps = c.args.steps.now in
    let streams = c.args.streams.items in
    let all = not-begun g.L.Listener.heard g.L.Listener.broke (IsPolledRunBegun system steps streams) (IsLogOf (IsRunWithFates system steps streams)) c.args.listener.now
    (g.met.L.Listener.nothing c.args.listener.now)
    (begun-at_once laws system steps streams c.in_ranges.ensures.setting (λ carried. c.beginning.ensures.under_way (polled_setting (start laws system steps streams).setting streams carried))) in
    search (rules, all)

pub log_run-requires-clause-fresh : goal.log_run-requires-clause-fresh
log_run-requires-clause-fresh g c =
    let laws : EndLaws = record { rides = record { is = c.one_ride.ensures.is; at = c.rides_of_openings.ensures.at; cycles = c.opened_cycles.ensures.cycles }; kept = c.promise.ensures.kept } in
    (start laws c.args.system.now c.args.steps.now c.args.streams.items, record { history_is = c.in_ok-polled.ensures.empty; is_polled = c.in_ok-polled.ensures.begun })

pub returns-in_err-log_run-clause-cut : goal.returns-in_err-log_run-clause-cut
returns-in_err-log_run-clause-cut g c =
    let laws : EndLaws = record { rides = record { is = c.one_ride.ensures.is; at = c.rides_of_openings.ensures.at; cycles = c.opened_cycles.ensures.cycles }; kept = c.promise.ensures.kept } in
    let system = c.args.system.now in
    let steps = c.args.steps.now in
    let streams = c.args.streams.items in
    let on = start laws system steps streams in
    let calls = flat_map calls_of steps in
    let run = AnswersAll IsPolledOnBus on calls in
    let all = cut-weaker g.L.Listener.heard g.L.Listener.broke (AnswersFirst IsPolledOnBus on calls) (IsPolledRunBegun system steps streams)
    (IsLogOf run) (IsLogOf (IsRunWithFates system steps streams)) c.args.listener.now c.log_run.new.listener c.in_err-log_run.field-0.0
    (begun-of laws system steps streams) (log-weaker run (IsRunWithFates system steps streams) (run-of laws system steps streams))
    (c.in_err-log_run.ensures.cut on (record { history_is = c.in_ok-polled.ensures.empty; is_polled = c.in_ok-polled.ensures.begun })) in
    caused c.from_residual-in_err-log_run.result
    (IsCutOff g.L.Listener.heard g.L.Listener.broke (IsPolledRunBegun system steps streams) (IsLogOf (IsRunWithFates system steps streams)) c.args.listener.now c.log_run.new.listener)
    c.in_err-log_run.field-0.0 c.from_residual-in_err-log_run.ensures.1 all

pub returns-clause-heard : goal.returns-clause-heard
returns-clause-heard g c =
    let laws : EndLaws = record { rides = record { is = c.one_ride.ensures.is; at = c.rides_of_openings.ensures.at; cycles = c.opened_cycles.ensures.cycles }; kept = c.promise.ensures.kept } in
    let system = c.args.system.now in
    let steps = c.args.steps.now in
    let streams = c.args.streams.items in
    heard-of laws system steps streams g.L.Listener.heard c.log_run.new.run c.args.listener.now c.log_run.new.listener
    (c.in_ok-log_run.ensures.heard (start laws system steps streams)
    (record { history_is = c.in_ok-polled.ensures.empty; is_polled = c.in_ok-polled.ensures.begun }))
