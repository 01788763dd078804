use Rattle.std.proofs.Common.{◌≡◌, take, reverse}
use Rattle.stuff_bound.specs.Stuffing.{Tracks, with_stuff}
use Rattle.stuff_bound.proofs.stuffing.stuff.Given as goal

abbrev pub invariant-loop-bit : goal.invariant-loop-bit
invariant-loop-bit l =
    let sent = with_stuff (reverse (take l.bit-index l.bits)) in
    record { run : Tracks l.run sent; wire : reverse l.wire.items ≡ sent }
