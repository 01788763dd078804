use Rattle.live_node.proofs.Model.{offers-alike}
use Rattle.live_node.proofs.laws.offers_as_the_model.Goals as goal

pub returns : goal.returns
returns c = record {
  offers = λ view into opened is layout fits within plain. offers-alike view into opened is layout fits within plain;
}
