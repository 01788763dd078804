use Rattle.std.proofs.Common.{All, subst}
use Rattle.standby.specs.Following.{IsInCore, StandbyView}
use Rattle.standby.proofs.standby.Standby.history.Goals as goal

pub returns-clause-core_alone : goal.returns-clause-core_alone
returns-clause-core_alone c = subst (λ (v : StandbyView). All IsInCore v.history) c.self.view_is c.self.invariant.0.core_alone
