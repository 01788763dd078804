use Rattle.node_model.proofs.StaysNode.{node-learning, node-hearing}
use Rattle.node_model.proofs.laws.stays_a_node.Goals as goal

pub returns : goal.returns
returns c = record { learning = node-learning; hearing = node-hearing }
