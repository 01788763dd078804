-- What is known of the frame's front, and its last byte.
use Rattle.std.proofs.Common.{◌≡◌, suc, ◌+◌, ◌-◌, ◌%◌, length, get_or, sym, subst, arith}
use Rattle.can_frame.specs.Begun.{HasBegun}
use Rattle.can_frame.proofs.LowBytes.{last-byte}
use Rattle.can_frame.proofs.known_front.KnownFront.wire_len.Goals as goal

pub len_after-requires : goal.len_after-requires
len_after-requires c =
    let frame = c.args.frame.now in
    let n = length frame.bytes in
    let whole : n - 1 + 1 ≡ n = omega (arith, c.if-dlc-eq0.false, c.dlc.ensures.value) in
    let next : suc (n - 1) ≡ n = omega (arith, whole) in
    let last : c.number-number.result % 256 ≡ get_or frame.bytes (n - 1) 0 = grind (arith, last-byte) in
    let known : HasBegun frame (n - 1) c.self.inside.sum c.self.inside.sender = subst (λ known. HasBegun frame (n - 1) known.sum known.sender) (sym c.self.view_is) c.know.ensures.known in
    record { begun = subst (λ count. HasBegun frame count c.then.result.sum c.then.result.sender) whole (c.then.ensures.begun frame (n - 1) whole last known) }
