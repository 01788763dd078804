use Rattle.std.proofs.Common.{[], rules}
use Rattle.std.specs.List.{flat_map}
use Rattle.replay_run.specs.Run.{calls_of}
use Rattle.replay_run.proofs.Whole.{begins-heard, cut-at_end, cut-short, log-heard, start_at}
use Rattle.replay_run.proofs.logging.log_run.Goals as goal

pub log_calls-requires-clause-ready : goal.log_calls-requires-clause-ready
log_calls-requires-clause-ready g c =
    let told = c.args.listener.now in
    let nothing = g.met.L.Listener.nothing told in
    let fresh = c.requires.fresh in (
      start_at g.R.Runs.goes g.L.Listener.heard fresh.0 told nothing,
      [],
      begins-heard g.R.Runs.goes g.L.Listener.heard fresh.0 told nothing c.args.run.now fresh.1,
    )

pub returns-in_err-log_calls-clause-cut : goal.returns-in_err-log_calls-clause-cut
returns-in_err-log_calls-clause-cut g c =
    let told = c.args.listener.now in
    let all = λ (setting : g.R.Runs.Setting) (fresh : g.R.Runs.goes setting [] [] c.args.run.now). cut-short g.R.Runs.goes g.L.Listener.heard setting told (g.met.L.Listener.nothing told) g.R.Runs.keeps g.L.Listener.broke
    (flat_map calls_of c.args.steps.now) c.args.run.now c.log_calls.new.listener c.in_err-log_calls.field-0.0 fresh c.in_err-log_calls.ensures.stops in
    search (rules, all)

pub returns-in_err-hear_end-clause-cut : goal.returns-in_err-hear_end-clause-cut
returns-in_err-hear_end-clause-cut g c =
    let told = c.args.listener.now in
    let all = λ (setting : g.R.Runs.Setting) (fresh : g.R.Runs.goes setting [] [] c.args.run.now). cut-at_end g.R.Runs.goes g.L.Listener.heard setting told (g.met.L.Listener.nothing told) g.R.Runs.keeps g.L.Listener.broke
    (flat_map calls_of c.args.steps.now) g.met.L.Listener.broke_later (λ one whole trace. g.met.R.Runs.going_keeps setting whole trace one)
    c.args.run.now c.log_calls.new.run c.log_calls.new.listener c.hear_end.new.self c.opened.result fresh c.in_ok-log_calls.ensures.goes_on
    (c.opened.ensures.opened setting) c.in_err-hear_end.ensures.broke in
    search (rules, all)

pub returns-clause-heard : goal.returns-clause-heard
returns-clause-heard g c = λ setting fresh.
    let told = c.args.listener.now in
    log-heard g.R.Runs.goes g.L.Listener.heard setting told (g.met.L.Listener.nothing told) g.met.L.Listener.more (flat_map calls_of c.args.steps.now)
    c.args.run.now c.log_calls.new.run c.log_calls.new.listener c.hear_end.new.self c.opened.result fresh c.in_ok-log_calls.ensures.goes_on
    (c.opened.ensures.opened setting) c.in_ok-hear_end.ensures.heard
