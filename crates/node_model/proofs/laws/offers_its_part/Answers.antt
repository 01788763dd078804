use Rattle.node_model.proofs.OwnPart.{offers_own_part}
use Rattle.node_model.proofs.laws.offers_its_part.Goals as goal

pub returns : goal.returns
returns c = record { own_part = offers_own_part }
