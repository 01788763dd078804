use Rattle.bus_line.proofs.Sooner.{sooner-together}
use Rattle.bus_line.proofs.laws.sooner_wake.Goals as goal

pub returns : goal.returns
returns c = record { together = sooner-together }
