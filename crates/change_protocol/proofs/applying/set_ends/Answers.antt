use Rattle.std.proofs.Common.{sym}
use Rattle.change_protocol.proofs.Ends.{ended-next, none-ended}
use Rattle.change_protocol.proofs.applying.set_ends.Goals as goal

pub loop-op-init : goal.loop-op-init
loop-op-init c = sym (none-ended c.args.start c.args.list.now)

pub loop-op-preserved : goal.loop-op-preserved
loop-op-preserved c =
    let placed = c.args.list.now in
    let within = c.loop-op-test.true in
    ended-next placed c.loop-op.list c.set_end.new.list c.args.start c.args.ops.now c.loop-op.op-index _ c.ended_place.result
    within (c.ended_place.ensures.only placed c.requires.counted (c.requires.live c.loop-op.op-index _ within)) c.loop-op.invariant c.set_end.ensures.none c.set_end.ensures.some
