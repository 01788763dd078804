use Rattle.std.proofs.Common.{◌≢◌, ℕ, ◌<◌, Some}
use Rattle.sporadic_poll.specs.Ride.{IsOfSlot}
use Rattle.sporadic_poll.specs.Rides.{taken_in}
use Rattle.sporadic_poll.proofs.rides.noted_as.Given as goal

-- none of the requests before is noted so
abbrev pub invariant-loop-place : goal.invariant-loop-place
invariant-loop-place l = (place : ℕ) → place < l.place → IsOfSlot l.streams l.slot place → taken_in l.fates place ≢ Some l.release
