use Rattle.node_model.proofs.Apart.{offers-in_range}
use Rattle.node_model.proofs.laws.offers_in_range.Goals as goal

pub returns : goal.returns
returns c = record { in_range = offers-in_range }
