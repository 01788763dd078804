use Rattle.kept_run.proofs.Triggers.{triggers-counted}
use Rattle.kept_run.proofs.laws.triggers_count_cycles.Goals as goal

pub returns : goal.returns
returns c = record { counted = triggers-counted }
