use Rattle.disturbed_runs.proofs.Runs.{kept-but_bad}
use Rattle.disturbed_runs.proofs.laws.runs_are_kept_but_for_bad_cycles.Goals as goal

pub returns : goal.returns
returns c = record { kept = kept-but_bad }
