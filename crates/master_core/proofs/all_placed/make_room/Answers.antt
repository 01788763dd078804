use Rattle.std.proofs.Common.{arith}
use Rattle.master_core.proofs.Growing.{length-applied}
use Rattle.master_core.proofs.all_placed.make_room.Goals as goal

pub returns-clause-room : goal.returns-clause-room
returns-clause-room c =
    omega (arith, c.in_ok-reserve_both.ensures.room, c.len.ensures.count, length-applied c.args.placed.now c.args.change.now)
