use Rattle.live_master.proofs.Openings.{next_found}
use Rattle.live_master.proofs.laws.openings_of_dispatchers.Goals as goal

pub returns-clause-cycles : goal.returns-clause-cycles
returns-clause-cycles c = λ v facts zeroth. next_found v.number v.seen v.mine zeroth facts.own_are
