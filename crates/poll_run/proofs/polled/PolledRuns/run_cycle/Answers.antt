use Rattle.std.proofs.Common.{◌∷◌, []}
use Rattle.std.proofs.lemmas.Result.{on_ok_weaker}
use Rattle.master_core.specs.Calls.{opens}
use Rattle.poll_run.proofs.Carrying.{can-poll, polls-on}
use Rattle.poll_run.proofs.polled.PolledRuns.run_cycle.Goals as goal

pub run_next-requires-clause-can : goal.run_next-requires-clause-can
run_next-requires-clause-can c = can-poll c.args.self.now c.requires.can

pub returns-clause-on : goal.returns-clause-on
returns-clause-on c =
    on_ok_weaker c.run_next.result (polls-on c.args.self.now c.run_next.new.self c.run_next.new.self.frames.items (opens ∷ [])) c.run_next.ensures.on
