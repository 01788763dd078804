use Rattle.master_core.proofs.CoreSteps.{core-again}
use Rattle.master_core.proofs.laws.saved_cores.Goals as goal

pub returns : goal.returns
returns c = record { saved = core-again }
