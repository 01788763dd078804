use Rattle.sporadic_poll.specs.Rides.{IsNoting}
use Rattle.sporadic_poll.proofs.rides.Rides.note_sent.Given as goal

-- the frames before were noted
abbrev pub invariant-loop-sent : goal.invariant-loop-sent
invariant-loop-sent l = IsNoting l.cycle l.placed l.frames l.initial.self l.self l.sent-index
