use Rattle.node_model.proofs.Ready.{nothing-ready}
use Rattle.node_model.proofs.entries.Remaining.new.Goals as goal

pub returns-clause-ready : goal.returns-clause-ready
returns-clause-ready c = nothing-ready _ 96
