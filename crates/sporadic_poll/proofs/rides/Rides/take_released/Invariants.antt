use Rattle.sporadic_poll.proofs.Rounds.{IsTaking}
use Rattle.sporadic_poll.proofs.rides.Rides.take_released.Given as goal

-- the instances of the slots before took their requests
abbrev pub invariant-loop-slot : goal.invariant-loop-slot
invariant-loop-slot l = IsTaking l.time l.cycle l.placed l.initial.self l.self l.slot
