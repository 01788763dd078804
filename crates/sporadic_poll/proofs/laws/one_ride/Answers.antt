use Rattle.sporadic_poll.proofs.OneRide.{is_ride, one_ride}
use Rattle.sporadic_poll.proofs.laws.one_ride.Goals as goal

pub returns : goal.returns
returns c = record { is = is_ride; one = one_ride }
