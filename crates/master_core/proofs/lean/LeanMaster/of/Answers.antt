use Rattle.std.proofs.Common.{◌∙◌, Bool, ap, refl, subst}
use Rattle.master_core.specs.Cores.{CoreView, IsStateAs}
use Rattle.master_core.specs.Keeping.{MasterView}
use Rattle.master_core.proofs.States.{state-pruned}
use Rattle.master_core.proofs.lean.LeanMaster.of.Goals as goal

pub invariant_of-result : goal.invariant_of-result
invariant_of-result c =
    let whole =
    subst (λ (b : Bool). IsStateAs b c.master.inside.history.items c.master.inside.core) c.master.invariant.1 c.master.invariant.0 in
    rw (c.of.ensures.history, c.of.ensures.keeps) (
      state-pruned _ _ _ whole c.pruned.ensures.pruned,
      ap (λ (v : CoreView). v.forgets) c.pruned.ensures.pruned.is ∙ c.master.invariant.1,
      refl,
    )

pub returns-clause-rules : goal.returns-clause-rules
returns-clause-rules c = ap (λ (v : CoreView). v.rules) c.pruned.ensures.pruned.is ∙ ap (λ (v : MasterView). v.rules) c.master.view_is
