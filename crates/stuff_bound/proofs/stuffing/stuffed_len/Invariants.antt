use Rattle.std.proofs.Common.{◌≡◌, ◌≤◌, ◌*◌, length, take, reverse}
use Rattle.stuff_bound.specs.Stuffing.{Tracks, with_stuff}
use Rattle.stuff_bound.proofs.stuffing.stuffed_len.Given as goal

abbrev pub invariant-loop-bit : goal.invariant-loop-bit
invariant-loop-bit l =
    let sent = with_stuff (reverse (take l.bit-index l.bits)) in
    record { run : Tracks l.run sent; len : l.len ≡ length sent; small : l.len ≤ 2 * l.bit-index }
