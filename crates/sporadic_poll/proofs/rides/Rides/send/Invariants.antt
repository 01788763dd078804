use Rattle.std.proofs.Common.{vec_capacity}
use Rattle.sporadic_poll.proofs.Rounds.{InSend}
use Rattle.sporadic_poll.proofs.rides.Rides.send.Given as goal

-- what was sent, and what is to come
abbrev pub invariant-loop-sent : goal.invariant-loop-sent
invariant-loop-sent l = InSend l.cycle l.placed l.self l.frames l.until l.initial.out.items l.from l.out.items l.at l.sent-index (vec_capacity l.out) (vec_capacity l.initial.out)
