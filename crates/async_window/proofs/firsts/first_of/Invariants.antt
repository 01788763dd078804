use Rattle.std.proofs.Common.{ℕ, ◌<◌, get_or}
use Rattle.async_window.specs.Mailbox.{Mail}
use Rattle.async_window.specs.Tournament.{arrival_within}
use Rattle.async_window.proofs.firsts.first_of.Given as goal

-- none of those that were looked at has arrived and is short enough
abbrev pub invariant-loop-place : goal.invariant-loop-place
invariant-loop-place l = (place : ℕ) (d : Mail) → place < l.place → l.at < arrival_within l.bytes (get_or l.boxes place d).unsent
