use Rattle.node_model.proofs.Apart.{apart-by_number, apart-learning, apart-hearing, apart-turned, offers-apart}
use Rattle.node_model.proofs.laws.nodes_are_apart.Goals as goal

pub returns : goal.returns
returns c = record {
  by_number = apart-by_number;
  learning = apart-learning;
  hearing = apart-hearing;
  turned = apart-turned;
  never_both = offers-apart;
}
