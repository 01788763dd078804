use Rattle.std.proofs.Common.{rules, ◌∙◌}
use Rattle.std.specs.List.{flat_map}
use Rattle.kept_run.proofs.Shared.{Promises}
use Rattle.replay_run.specs.Begun.{IsRunBegun}
use Rattle.replay_run.specs.Progress.{IsKeptOnBus}
use Rattle.replay_run.specs.Run.{IsRun, calls_of, setting_of}
use Rattle.replay_run.specs.Runs.{AnswersAll, AnswersFirst}
use Rattle.replay_run.specs.Whole.{IsCutOff, IsLogOf}
use Rattle.replay_run.proofs.Whole.{begun-at_once, begun-of, caused, cut-weaker, heard-of, kept_so, log-weaker, not-begun, run-of}
use Rattle.replay_run.proofs.logging.log_steps.Goals as goal

pub returns-in_err-bus-clause-cut : goal.returns-in_err-bus-clause-cut
returns-in_err-bus-clause-cut g c =
    let system = c.args.system.now in
    let steps = c.args.steps.now in
    let requests = c.args.requests.now in
    let all = not-begun g.L.Listener.heard g.L.Listener.broke (IsRunBegun system steps requests) (IsLogOf (IsRun system steps requests)) c.args.listener.now
    (g.met.L.Listener.nothing c.args.listener.now)
    (begun-at_once (record { kept = c.promise.ensures.kept }) system steps requests c.in_ranges.ensures.setting
    (c.beginning.ensures.under_way (setting_of system requests))) in
    search (rules, all)

pub log_run-requires-clause-fresh : goal.log_run-requires-clause-fresh
log_run-requires-clause-fresh g c = (
  kept_so (record { kept = c.promise.ensures.kept }) c.args.system.now c.args.steps.now c.args.requests.now c.args.keeps,
  record { history_is = c.in_ok-bus.ensures.empty; going = c.in_ok-bus.ensures.going; kept = c.in_ok-bus.ensures.kept },
)

pub returns-in_err-log_run-clause-cut : goal.returns-in_err-log_run-clause-cut
returns-in_err-log_run-clause-cut g c =
    let laws : Promises = record { kept = c.promise.ensures.kept } in
    let system = c.args.system.now in
    let steps = c.args.steps.now in
    let requests = c.args.requests.now in
    let start = kept_so laws system steps requests c.args.keeps in
    let calls = flat_map calls_of steps in
    let run = AnswersAll (λ on. IsKeptOnBus on.setting) start calls in
    let all = cut-weaker g.L.Listener.heard g.L.Listener.broke
    (AnswersFirst (λ on. IsKeptOnBus on.setting) start calls) (IsRunBegun system steps requests) (IsLogOf run) (IsLogOf (IsRun system steps requests))
    c.args.listener.now c.log_run.new.listener c.in_err-log_run.field-0.0
    (λ history trace is. begun-of laws system steps requests history trace is.later is.answers is.keeps)
    (log-weaker run (IsRun system steps requests) (λ history trace is. run-of laws system steps requests history trace is.answers is.keeps))
    (c.in_err-log_run.ensures.cut start
    (record { history_is = c.in_ok-bus.ensures.empty; going = c.in_ok-bus.ensures.going; kept = c.in_ok-bus.ensures.kept })) in
    caused c.from_residual-in_err-log_run.result
    (IsCutOff g.L.Listener.heard g.L.Listener.broke (IsRunBegun system steps requests) (IsLogOf (IsRun system steps requests)) c.args.listener.now c.log_run.new.listener)
    c.in_err-log_run.field-0.0 c.from_residual-in_err-log_run.ensures.1 all

pub returns-clause-heard : goal.returns-clause-heard
returns-clause-heard g c =
    let laws : Promises = record { kept = c.promise.ensures.kept } in
    let system = c.args.system.now in
    let steps = c.args.steps.now in
    let requests = c.args.requests.now in
    let start = kept_so laws system steps requests c.args.keeps in
    heard-of laws system steps requests g.L.Listener.heard c.args.keeps c.log_run.new.run c.args.listener.now c.log_run.new.listener
    (c.in_ok-log_run.ensures.heard start
    (record { history_is = c.in_ok-bus.ensures.empty; going = c.in_ok-bus.ensures.going; kept = c.in_ok-bus.ensures.kept }))

pub returns-clause-rules : goal.returns-clause-rules
returns-clause-rules g c =
    let start = kept_so (record { kept = c.promise.ensures.kept }) c.args.system.now c.args.steps.now c.args.requests.now c.args.keeps in
    (c.in_ok-log_run.ensures.heard start
    (record { history_is = c.in_ok-bus.ensures.empty; going = c.in_ok-bus.ensures.going; kept = c.in_ok-bus.ensures.kept })).is.run.keeps.going.same_rules

pub returns-clause-kept : goal.returns-clause-kept
returns-clause-kept g c =
    let start = kept_so (record { kept = c.promise.ensures.kept }) c.args.system.now c.args.steps.now c.args.requests.now c.args.keeps in
    (c.in_ok-log_run.ensures.heard start
    (record { history_is = c.in_ok-bus.ensures.empty; going = c.in_ok-bus.ensures.going; kept = c.in_ok-bus.ensures.kept })).is.run.keeps.kept

pub returns-clause-events : goal.returns-clause-events
returns-clause-events g c =
    let start = kept_so (record { kept = c.promise.ensures.kept }) c.args.system.now c.args.steps.now c.args.requests.now c.args.keeps in
    let is = c.in_ok-log_run.ensures.heard start
    (record { history_is = c.in_ok-bus.ensures.empty; going = c.in_ok-bus.ensures.going; kept = c.in_ok-bus.ensures.kept }) in
    is.is.run.keeps.going.events ∙ is.is.run.keeps.kept
