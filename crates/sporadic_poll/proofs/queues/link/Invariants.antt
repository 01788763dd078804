use Rattle.std.proofs.Common.{length}
use Rattle.sporadic_poll.proofs.Linking.{IsLinking}
use Rattle.sporadic_poll.proofs.queues.link.Given as goal

-- the requests from this place on are linked
abbrev pub invariant-loop-place : goal.invariant-loop-place
invariant-loop-place l = IsLinking (length l.initial.next.items) l.streams l.later.items l.next.items l.place
