use Rattle.std.proofs.Common.{◌∷◌, []}
use Rattle.master_core.specs.Calls.{asked}
use Rattle.replay_run.proofs.Cutting.{bus-answered}
use Rattle.replay_run.proofs.runs.BusRuns.answer_act.Goals as goal

pub returns-clause-on : goal.returns-clause-on
returns-clause-on c =
    bus-answered c.args.self.now c.answer.new.self (asked c.args.caller c.args.act.now ∷ []) c.answer.result c.answer.ensures.on c.answer.ensures.calls
    c.answer.ensures.kept
