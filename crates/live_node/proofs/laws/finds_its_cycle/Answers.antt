use Rattle.live_node.proofs.Clock.{found, only}
use Rattle.live_node.proofs.laws.finds_its_cycle.Goals as goal

pub returns : goal.returns
returns c = record { found = found; only = only }
