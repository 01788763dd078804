use Rattle.change_protocol.proofs.NotFelt.{same-instances, same-last, same-released, same-releases, same-worst}
use Rattle.change_protocol.proofs.laws.cycles_before_the_start.Goals as goal

pub returns-clause-released : goal.returns-clause-released
returns-clause-released c start cycle old new changed early = same-released start cycle old new changed early

pub returns-clause-releases : goal.returns-clause-releases
returns-clause-releases c start cycle slot old new changed early = same-releases start slot cycle old new changed early

pub returns-clause-instance : goal.returns-clause-instance
returns-clause-instance c start cycle slot old new changed early = same-instances start slot cycle old new changed early

pub returns-clause-worst : goal.returns-clause-worst
returns-clause-worst c start cycle slot old new changed early = same-worst slot cycle old new (same-instances start slot cycle old new changed early)

pub returns-clause-last : goal.returns-clause-last
returns-clause-last c start cycle slot old new changed early = same-last slot cycle old new (same-instances start slot cycle old new changed early)
