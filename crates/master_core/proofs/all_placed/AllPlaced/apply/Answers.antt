use Rattle.std.proofs.Common.{vec_capacity, arith}
use Rattle.master_core.proofs.Growing.{within-room}
use Rattle.master_core.proofs.all_placed.AllPlaced.apply.Goals as goal

pub invariant_of-self-2 : goal.invariant_of-self-2
invariant_of-self-2 c = grind (arith, vec_capacity, within-room)
