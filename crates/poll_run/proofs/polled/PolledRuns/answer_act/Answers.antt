use Rattle.std.proofs.Common.{◌∷◌, []}
use Rattle.std.proofs.lemmas.Result.{on_ok_weaker}
use Rattle.master_core.specs.Calls.{asked}
use Rattle.poll_run.proofs.Carrying.{can-poll, polls-on}
use Rattle.poll_run.proofs.polled.PolledRuns.answer_act.Goals as goal

pub answer-requires-clause-can : goal.answer-requires-clause-can
answer-requires-clause-can c = can-poll c.args.self.now c.requires.can

pub returns-clause-on : goal.returns-clause-on
returns-clause-on c =
    on_ok_weaker c.answer.result (polls-on c.args.self.now c.answer.new.self [] (asked c.args.caller c.args.act.now ∷ [])) c.answer.ensures.on
