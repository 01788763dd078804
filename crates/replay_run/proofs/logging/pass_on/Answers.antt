use Rattle.std.proofs.Common.{rules}
use Rattle.replay_run.proofs.Cutting.{cut-passing, goes-passing}
use Rattle.replay_run.proofs.logging.pass_on.Goals as goal

pub returns-in_err-pass_on-clause-stops : goal.returns-in_err-pass_on-clause-stops
returns-in_err-pass_on-clause-stops g c =
    let cut = cut-passing g.R.Runs.goes g.R.Runs.keeps g.met.R.Runs.going_keeps g.L.Listener.heard g.L.Listener.broke c.args.run.now c.args.listener.now
    c.pass_on.new.self c.in_err-pass_on.ensures.broke in
    search (rules, cut)

pub returns-clause-goes_on : goal.returns-clause-goes_on
returns-clause-goes_on g c =
    goes-passing g.R.Runs.goes g.L.Listener.heard c.args.run.now c.args.listener.now c.pass_on.new.self c.in_ok-pass_on.ensures.heard
