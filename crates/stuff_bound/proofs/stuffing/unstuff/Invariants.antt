use Rattle.std.proofs.Common.{◌≡◌, take, reverse}
use Rattle.stuff_bound.specs.Stuffing.{Tracks, HasNoSix, without_stuff}
use Rattle.stuff_bound.proofs.stuffing.unstuff.Given as goal

abbrev pub invariant-loop-place : goal.invariant-loop-place
invariant-loop-place l =
    let seen = reverse (take l.place l.bits) in
    record { run : Tracks l.run seen; no_six : HasNoSix seen; plain : reverse l.plain.items ≡ without_stuff seen }
