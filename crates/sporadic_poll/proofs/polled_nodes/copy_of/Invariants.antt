use Rattle.std.proofs.Common.{◌≡◌, take}
use Rattle.sporadic_poll.proofs.polled_nodes.copy_of.Given as goal

-- the requests so far
abbrev pub invariant-loop-stream : goal.invariant-loop-stream
invariant-loop-stream l = l.copy.items ≡ take l.stream-index l.streams
