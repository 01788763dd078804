use Rattle.std.proofs.Common.{◌∙◌, refl, subst, sym}
use Rattle.master_core.specs.declared.event.Event.TheVariants.{Open}
use Rattle.master_core.specs.History.{IsPlainlyLegal, next_of, placed_of}
use Rattle.master_core.specs.Journals.{LeanView}
use Rattle.master_core.specs.Orders.{IsOrderFor, IsOrderWith, StandsFor}
use Rattle.master_core.proofs.Growing.{all-same}
use Rattle.master_core.proofs.States.{stands-next, state-opened, state-order-with}
use Rattle.master_core.proofs.Whole.{plain-more}
use Rattle.master_core.proofs.lean.LeanMaster.open.Goals as goal

pub invariant_of-self : goal.invariant_of-self
invariant_of-self c =
    rw (c.put.ensures.history, c.put.ensures.keeps, c.open-order.ensures.state, c.open-order.ensures.order.cycle) (
      state-opened _ _ _ c.known.ensures.core c.self.invariant.0 _ c.open-order.ensures.order.mask,
      c.self.invariant.1,
      c.self.invariant.2 ∙ all-same c.self.inside.journal.keeps c.self.inside.journal.history (Open c.self.inside.core.cycle c.open-order.result.mask) refl,
    )

pub returns-clause-order : goal.returns-clause-order
returns-clause-order c =
    subst (λ (v : LeanView). IsOrderFor v.rules v.history c.open-order.result) c.self.view_is
    (record {
      list = c.self.inside.core.placed;
      stands = stands-next _ _ _ c.known.ensures.core c.self.invariant.0;
      is = state-order-with _ _ _ c.known.ensures.core c.self.invariant.0 c.open-order.result c.open-order.ensures.order;
    })

pub returns-clause-learns : goal.returns-clause-learns
returns-clause-learns c =
    subst (λ (v : LeanView). IsOrderWith v.rules v.history v.placed c.open-order.result) c.self.view_is
    (state-order-with _ _ _ c.known.ensures.core c.self.invariant.0 c.open-order.result c.open-order.ensures.order)

pub returns-clause-stands : goal.returns-clause-stands
returns-clause-stands c =
    subst (λ (v : LeanView). StandsFor (next_of v.history) (placed_of v.history) v.placed) c.self.view_is
    (stands-next _ _ _ c.known.ensures.core c.self.invariant.0)

pub returns-clause-legal : goal.returns-clause-legal
returns-clause-legal c =
    rw (c.put.ensures.history, c.open-order.ensures.state, c.open-order.ensures.order.cycle)
    (state-opened _ _ _ c.known.ensures.core c.self.invariant.0 _ c.open-order.ensures.order.mask).legal

pub returns-clause-plain : goal.returns-clause-plain
returns-clause-plain c plain =
    let was = subst (λ (v : LeanView). IsPlainlyLegal v.rules v.history) (sym c.self.view_is) plain in
    rw (c.put.ensures.history, c.open-order.ensures.state, c.open-order.ensures.order.cycle)
    (plain-more _ _ _ c.self.inside.core _ refl tt (state-opened _ _ _ c.known.ensures.core c.self.invariant.0 _ c.open-order.ensures.order.mask) was)
