use Rattle.bus_line.proofs.Traces.{Follows-along}
use Rattle.bus_line.proofs.laws.same_along.Goals as goal

pub returns : goal.returns
returns g c = record { along = λ one other. Follows-along (g.One.Offering.offers one) (g.Other.Offering.offers other) }
