use Rattle.sporadic_poll.proofs.Released.{released-complete, released-sound}
use Rattle.sporadic_poll.proofs.laws.releases_of_a_slot.Goals as goal

pub returns : goal.returns
returns c = record { complete = released-complete; sound = released-sound }
