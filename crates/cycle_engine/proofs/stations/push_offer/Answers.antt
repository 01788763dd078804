use Rattle.std.proofs.Common.{[], ◌++◌, subst}
use Rattle.std.specs.List.{cons_option}
use Rattle.arbitration.specs.Arbitration.{AreDistinct}
use Rattle.cycle_engine.proofs.NodesOffer.{distinct_before}
use Rattle.cycle_engine.proofs.stations.push_offer.Goals as goal

pub push-requires-clause-other : goal.push-requires-clause-other
push-requires-clause-other c =
    distinct_before c.args.ids.now c.in-Some.id [] (subst (λ o. AreDistinct (c.args.ids.now ++ cons_option o [])) c.in-Some.is c.requires.distinct)
