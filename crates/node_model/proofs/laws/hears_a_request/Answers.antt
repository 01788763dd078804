use Rattle.node_model.proofs.HeardRequest.{hears-others, hears-own}
use Rattle.node_model.proofs.laws.hears_a_request.Goals as goal

pub returns : goal.returns
returns c = record { own = hears-own; others = hears-others }
