use Rattle.live_node.proofs.Steps.{next-alike}
use Rattle.live_node.proofs.laws.hears_as_the_model.Goals as goal

pub returns : goal.returns
returns c = record {
  next = λ view passed frame trigger started first near small few in_step is.
      next-alike view passed frame trigger started first near small few in_step is;
}
