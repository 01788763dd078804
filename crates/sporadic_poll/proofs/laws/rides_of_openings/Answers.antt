use Rattle.sporadic_poll.proofs.Openings.{rides_at}
use Rattle.sporadic_poll.proofs.laws.rides_of_openings.Goals as goal

pub returns : goal.returns
returns c = record { at = rides_at }
