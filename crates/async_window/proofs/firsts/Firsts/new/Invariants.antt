use Rattle.async_window.specs.Tournament.{TellFirsts}
use Rattle.async_window.proofs.firsts.Firsts.new.Given as goal

-- the mailboxes that were noted are told of
abbrev pub invariant-loop-place : goal.invariant-loop-place
invariant-loop-place l = TellFirsts l.place l.boxes l.made.arrivals l.made.lengths
