use Rattle.std.proofs.Common.{◌∙◌, ◌+◌, ap, set}
use Rattle.change_protocol.proofs.Counts.{counts-next}
use Rattle.change_protocol.proofs.slots.count_from.Goals as goal

pub loop-place-preserved : goal.loop-place-preserved
loop-place-preserved c =
    let placed = c.args.placed.now in
    let i = c.loop-place.place in
    ap (λ slot. set c.loop-place.counts slot (i + 1)) c.from.ensures
    ∙ counts-next placed i _ c.loop-place.counts c.loop-place-test.true c.loop-place.invariant
