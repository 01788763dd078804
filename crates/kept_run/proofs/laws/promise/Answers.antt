use Rattle.kept_run.proofs.Steps.{keeps}
use Rattle.kept_run.proofs.laws.promise.Goals as goal

pub returns : goal.returns
returns c = record { kept = keeps }
