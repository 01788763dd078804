use Rattle.std.proofs.Common.{◌∷◌, [], rules, subst}
use Rattle.master_core.specs.Calls.{asked}
use Rattle.replay_run.specs.Runs.{HearsLast}
use Rattle.replay_run.proofs.Cutting.{can-run, cut-after, cut-before, heard-on}
use Rattle.replay_run.proofs.logging.answer_act.Goals as goal

pub answer_act-requires-clause-can : goal.answer_act-requires-clause-can
answer_act-requires-clause-can g c = can-run g.R.Runs.goes g.L.Listener.heard c.args.run.now c.args.listener.now c.requires.ready

pub returns-in_err-answer_act-clause-stops : goal.returns-in_err-answer_act-clause-stops
returns-in_err-answer_act-clause-stops g c =
    let cut = cut-before g.R.Runs.goes g.R.Runs.keeps g.met.R.Runs.going_keeps g.L.Listener.heard g.L.Listener.broke c.args.run.now
    (asked c.args.caller c.args.act.now ∷ []) c.args.listener.now in
    search (rules, cut)

pub returns-in_err-tell_last-clause-stops : goal.returns-in_err-tell_last-clause-stops
returns-in_err-tell_last-clause-stops g c =
    let told = c.args.listener.now in
    let now = c.tell_last.new.listener in
    let after = c.answer_act.new.self in
    let cut = cut-after g.R.Runs.goes g.R.Runs.keeps g.met.R.Runs.going_keeps g.L.Listener.heard g.L.Listener.broke g.met.L.Listener.broke_later
    c.args.run.now after (g.R.Runs.bus after).master.history [] told now (asked c.args.caller c.args.act.now ∷ []) c.in_ok-answer_act.ensures.on
    (subst (λ b. HearsLast g.L.Listener.broke b.master.history [] told now) c.bus.ensures.bus c.in_err-tell_last.ensures.broke) in
    search (rules, cut)

pub returns-clause-goes_on : goal.returns-clause-goes_on
returns-clause-goes_on g c =
    let told = c.args.listener.now in
    let now = c.tell_last.new.listener in
    let after = c.answer_act.new.self in
    heard-on g.R.Runs.goes g.L.Listener.heard g.met.L.Listener.more c.args.run.now after after
    (g.R.Runs.bus after).master.history [] told now (asked c.args.caller c.args.act.now ∷ []) c.in_ok-answer_act.ensures.on
    (subst (λ b. HearsLast g.L.Listener.heard b.master.history [] told now) c.bus.ensures.bus c.in_ok-tell_last.ensures.heard)
    (λ setting whole trace goes. goes)
