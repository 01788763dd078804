use Rattle.std.proofs.Common.{◌∷◌, [], rules}
use Rattle.master_core.specs.Calls.{asked}
use Rattle.replay_run.proofs.driver.answer_shown.Goals as goal

-- cut before the call
pub returns-in_err-pass_on-clause-stops : goal.returns-in_err-pass_on-clause-stops
returns-in_err-pass_on-clause-stops g c =
    let stops = g.met.D.Driven.stops_later c.args.driven.now c.args.driven.now c.pass_on.new.self [] [] (asked c.args.caller c.args.act.now ∷ [])
    c.in_err-pass_on.field-0.0 (g.met.D.Driven.at_once c.args.driven.now) c.in_err-pass_on.ensures.stops in
    search (rules, stops)

-- cut in it
pub returns-in_err-answer-clause-stops : goal.returns-in_err-answer-clause-stops
returns-in_err-answer-clause-stops g c =
    let stops = g.met.D.Driven.stops_later c.args.driven.now c.pass_on.new.self c.answer.new.self [] (asked c.args.caller c.args.act.now ∷ []) []
    c.in_err-answer.field-0.0 c.in_ok-pass_on.ensures.goes_on c.in_err-answer.ensures.stops in
    search (rules, stops)

-- cut behind it
pub returns-in_err-pass_on-2-clause-stops : goal.returns-in_err-pass_on-2-clause-stops
returns-in_err-pass_on-2-clause-stops g c =
    let answered = g.met.D.Driven.in_turn c.args.driven.now c.pass_on.new.self c.answer.new.self [] (asked c.args.caller c.args.act.now ∷ [])
    c.in_ok-pass_on.ensures.goes_on c.in_ok-answer.ensures.goes_on in
    let stops = g.met.D.Driven.stops_later c.args.driven.now c.answer.new.self c.pass_on-2.new.self (asked c.args.caller c.args.act.now ∷ []) [] []
    c.in_err-pass_on-2.field-0.0 answered c.in_err-pass_on-2.ensures.stops in
    search (rules, stops)

pub returns-clause-goes_on : goal.returns-clause-goes_on
returns-clause-goes_on g c =
    let answered = g.met.D.Driven.in_turn c.args.driven.now c.pass_on.new.self c.answer.new.self [] (asked c.args.caller c.args.act.now ∷ [])
    c.in_ok-pass_on.ensures.goes_on c.in_ok-answer.ensures.goes_on in
    g.met.D.Driven.in_turn c.args.driven.now c.answer.new.self c.pass_on-2.new.self (asked c.args.caller c.args.act.now ∷ []) []
    answered c.in_ok-pass_on-2.ensures.goes_on
