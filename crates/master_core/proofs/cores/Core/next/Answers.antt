use Rattle.std.proofs.Common.{ℕ, List, [], ◌∷◌, ◌++◌, subst}
use Rattle.master_core.specs.declared.event.Event.{Event}
use Rattle.master_core.specs.declared.event.Event.TheVariants.{Look}
use Rattle.master_core.specs.Cores.{CoreView, IsStateOf}
use Rattle.master_core.proofs.States.{state-looked}
use Rattle.master_core.proofs.cores.Core.next.Goals as goal

pub returns-clause-looked : goal.returns-clause-looked
returns-clause-looked c =
    subst
    (λ (v : CoreView). (history : List Event) (caller : ℕ) → IsStateOf history v → IsStateOf (history ++ Look caller c.self.inside.state.cycle ∷ []) v)
    c.self.view_is
    (λ history caller of. state-looked _ history _ c.self.invariant.0 of caller)
