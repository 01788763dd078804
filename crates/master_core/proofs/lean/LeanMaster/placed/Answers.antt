use Rattle.std.proofs.Common.{ℕ, subst}
use Rattle.master_core.specs.Cores.{IsPrunedBefore}
use Rattle.master_core.specs.History.{next_of, placed_of}
use Rattle.master_core.specs.Journals.{LeanView}
use Rattle.master_core.specs.Orders.{StandsFor}
use Rattle.master_core.proofs.States.{stands-next}
use Rattle.master_core.proofs.lean.LeanMaster.placed.Goals as goal

pub returns-clause-stands : goal.returns-clause-stands
returns-clause-stands c =
    subst (λ (v : LeanView). StandsFor (next_of v.history) (placed_of v.history) v.placed) c.self.view_is
    (stands-next _ _ _ c.known.ensures.core c.self.invariant.0)

pub returns-clause-held : goal.returns-clause-held
returns-clause-held c =
    subst (λ (v : LeanView). IsPrunedBefore (next_of v.history) (placed_of v.history) v.placed) c.self.view_is
    (subst (λ (n : ℕ). IsPrunedBefore n (placed_of c.self.inside.journal.history) c.self.inside.core.placed) c.self.invariant.0.next c.self.invariant.0.held)
