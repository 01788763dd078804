use Rattle.std.proofs.Common.{◌≡◌, ℕ, take}
use Rattle.bit_sets.specs.Sets.{has_bit}
use Rattle.sporadic_poll.specs.Polled.{is_polled}
use Rattle.sporadic_poll.proofs.rides.slots_of.Given as goal

-- the slots of the requests before
abbrev pub invariant-loop-stream : goal.invariant-loop-stream
invariant-loop-stream l = (slot : ℕ) → has_bit l.slots slot ≡ is_polled (take l.stream-index l.streams) slot
