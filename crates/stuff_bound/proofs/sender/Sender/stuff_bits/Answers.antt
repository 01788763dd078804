use Rattle.stuff_bound.proofs.Sent.{HasSent-fewer}
use Rattle.stuff_bound.proofs.sender.Sender.stuff_bits.Goals as goal

pub returns-clause-few : goal.returns-clause-few
returns-clause-few c plain h some = HasSent-fewer plain _ _ (rw (← c.self.view_is) at h) some
