use Rattle.async_window.specs.Tournament.{IsSoonestStart}
use Rattle.async_window.proofs.firsts.next_of.Given as goal

-- the least time at which the first request of one of those that were looked at may start
abbrev pub invariant-loop-place : goal.invariant-loop-place
invariant-loop-place l = IsSoonestStart l.boxes l.window.opened l.window.closed l.at l.place l.least
