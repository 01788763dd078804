use Rattle.kept_run.specs.Progress.{AreNodesReady, IsUnderWay}
use Rattle.kept_run.proofs.Histories.{after-closed}
use Rattle.kept_run.proofs.Ready.{ready-answered}
use Rattle.kept_run.proofs.Steps.{answered}
use Rattle.kept_run.proofs.laws.calls_between.Goals as goal

pub returns-clause-under_way : goal.returns-clause-under_way
returns-clause-under_way c = λ setting history calls trace closed legal way.
    after-closed setting.rules (λ h. IsUnderWay setting h trace) (answered setting trace) history calls closed legal way

pub returns-clause-ready : goal.returns-clause-ready
returns-clause-ready c = λ setting history calls trace nodes closed legal ready.
    after-closed setting.rules (λ h. AreNodesReady setting h trace nodes)
    (λ before call opens_nothing _ so_far. ready-answered setting trace nodes before call opens_nothing so_far) history calls closed legal ready
