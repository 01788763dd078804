use Rattle.std.proofs.Common.{◌≡◌, All, None, take}
use Rattle.sporadic_poll.specs.Rides.{slot_sent}
use Rattle.sporadic_poll.proofs.rides.front_len.Given as goal

-- none of the frames before is of a slot
abbrev pub invariant-loop-place : goal.invariant-loop-place
invariant-loop-place l = All (λ sent. slot_sent sent.frame ≡ None) (take l.place l.frames)
