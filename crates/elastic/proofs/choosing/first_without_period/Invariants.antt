-- The operations so far leave a choice.
use Rattle.std.proofs.Common.{All, take}
use Rattle.elastic.specs.Combination.{HasChoice}
use Rattle.elastic.proofs.choosing.first_without_period.Given as goal

abbrev pub invariant-loop-place : goal.invariant-loop-place
invariant-loop-place l = All HasChoice (take l.place l.ops)
