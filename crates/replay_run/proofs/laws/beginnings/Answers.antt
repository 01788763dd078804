use Rattle.replay_run.proofs.Beginnings.{begun-history, begun-trace}
use Rattle.master_core.proofs.Shared.{first-history}
use Rattle.replay_run.proofs.laws.beginnings.Goals as goal

pub returns-clause-events : goal.returns-clause-events
returns-clause-events c = λ rules history whole later plain plain2 calls.
    first-history (record { same = c.one_verdict.ensures.same }) rules history whole later calls plain plain2

pub returns-clause-history : goal.returns-clause-history
returns-clause-history c = begun-history (record { same = c.one_verdict.ensures.same })

pub returns-clause-trace : goal.returns-clause-trace
returns-clause-trace c = begun-trace (record { same = c.one_verdict.ensures.same })
