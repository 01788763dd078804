use Rattle.kept_run.proofs.Ready.{ready-at_first}
use Rattle.kept_run.proofs.Steps.{begins}
use Rattle.kept_run.proofs.laws.beginning.Goals as goal

pub returns : goal.returns
returns c = record { under_way = begins; ready = ready-at_first }
