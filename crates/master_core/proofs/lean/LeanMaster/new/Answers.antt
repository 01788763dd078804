use Rattle.std.proofs.Common.{[], ap, subst, sym, true}
use Rattle.master_core.specs.Cores.{CoreView, IsStateAs}
use Rattle.master_core.proofs.States.{state-new}
use Rattle.master_core.proofs.lean.LeanMaster.new.Goals as goal

pub invariant_of-result : goal.invariant_of-result
invariant_of-result c =
    rw (c.new-2.ensures.history, c.new-2.ensures.keeps) (
      subst (IsStateAs true []) (sym c.in_ok-core.ensures.core) (state-new _ _ _),
      ap (λ (v : CoreView). v.forgets) c.in_ok-core.ensures.core,
      c.none_yet-all.ensures.none,
    )
