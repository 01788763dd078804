use Rattle.nodes_on_bus.proofs.Driven.{guarded, run}
use Rattle.nodes_on_bus.proofs.laws.driven_buses_are_disturbed_ones.Goals as goal

pub returns : goal.returns
returns c = record { run = run; guarded = guarded }
