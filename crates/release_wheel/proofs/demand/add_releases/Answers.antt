use Rattle.std.proofs.Common.{arith}
use Rattle.release_wheel.proofs.Demands.{adding-end, adding-next, adding-start}
use Rattle.release_wheel.proofs.demand.add_releases.Goals as goal

pub loop-cycle-init : goal.loop-cycle-init
loop-cycle-init c = grind (arith, adding-start)

pub loop-cycle-preserved : goal.loop-cycle-preserved
loop-cycle-preserved c = grind (arith, adding-next)

pub returns-clause-more : goal.returns-clause-more
returns-clause-more c = grind (arith, adding-end)

pub returns-clause-within : goal.returns-clause-within
returns-clause-within c = λ done. c.loop-cycle.invariant.within
