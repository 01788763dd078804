use Rattle.std.proofs.Common.{arith, ap}
use Rattle.master_core.specs.Cores.{CoreView}
use Rattle.master_core.proofs.master.Master.new.Goals as goal

pub invariant_of-result : goal.invariant_of-result
invariant_of-result c =
    rw c.new-2.ensures.items
    (c.in_ok-core.ensures.history, ap (λ (v : CoreView). v.forgets) c.in_ok-core.ensures.core, record { spared = omega arith; few = omega arith })
