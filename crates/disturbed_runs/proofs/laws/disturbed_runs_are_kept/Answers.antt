use Rattle.disturbed_runs.proofs.Runs.{kept}
use Rattle.disturbed_runs.proofs.laws.disturbed_runs_are_kept.Goals as goal

pub returns : goal.returns
returns c = record { kept = kept }
