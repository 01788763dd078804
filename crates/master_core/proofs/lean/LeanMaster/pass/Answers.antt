use Rattle.std.proofs.Common.{◌≡◌, ◌∙◌, ◌++◌, ◌∷◌, [], ap, refl, subst, sym, ℕ}
use Rattle.master_core.specs.declared.event.Event.TheVariants.{Open}
use Rattle.master_core.specs.History.{IsPlainlyLegal, next_of}
use Rattle.master_core.specs.Journals.{LeanView}
use Rattle.master_core.specs.Orders.{IsUpcoming}
use Rattle.master_core.proofs.Growing.{all-same}
use Rattle.master_core.proofs.States.{core-upcoming, state-opened}
use Rattle.master_core.proofs.Whole.{plain-more}
use Rattle.master_core.proofs.lean.LeanMaster.pass.Goals as goal

pub open_upcoming-order-requires-clause-upcoming : goal.open_upcoming-order-requires-clause-upcoming
open_upcoming-order-requires-clause-upcoming c =
    core-upcoming _ _ _ c.known.ensures.core c.self.invariant.0 c.args.upcoming
    (subst (λ (v : LeanView). IsUpcoming v.rules v.history c.args.upcoming) (sym c.self.view_is) c.requires.upcoming)

pub invariant_of-self : goal.invariant_of-self
invariant_of-self c =
    rw (c.put.ensures.history, c.put.ensures.keeps, c.open_upcoming-order.ensures.state, c.open_upcoming-order.ensures.order.cycle) (
      state-opened _ _ _ c.known.ensures.core c.self.invariant.0 _ c.open_upcoming-order.ensures.order.mask,
      c.self.invariant.1,
      c.self.invariant.2 ∙ all-same c.self.inside.journal.keeps c.self.inside.journal.history (Open c.self.inside.core.cycle c.open_upcoming-order.result.mask) refl,
    )

pub returns-clause-event : goal.returns-clause-event
returns-clause-event c =
    let up = core-upcoming _ _ _ c.known.ensures.core c.self.invariant.0 c.args.upcoming
    (subst (λ (v : LeanView). IsUpcoming v.rules v.history c.args.upcoming) (sym c.self.view_is) c.requires.upcoming) in
    subst (λ (v : LeanView). c.put.new.self.history ≡ v.history ++ Open (next_of v.history) c.args.upcoming.mask ∷ []) c.self.view_is
    (c.put.ensures.history
    ∙ ap (λ (n : ℕ). c.self.inside.journal.history ++ Open n c.open_upcoming-order.result.mask ∷ []) (c.open_upcoming-order.ensures.order.cycle ∙ c.self.invariant.0.next)
    ∙ ap (λ (m : ℕ). c.self.inside.journal.history ++ Open (next_of c.self.inside.journal.history) m ∷ []) (c.open_upcoming-order.ensures.order.mask ∙ sym up.order.mask))

pub returns-clause-legal : goal.returns-clause-legal
returns-clause-legal c =
    rw (c.put.ensures.history, c.open_upcoming-order.ensures.state, c.open_upcoming-order.ensures.order.cycle)
    (state-opened _ _ _ c.known.ensures.core c.self.invariant.0 _ c.open_upcoming-order.ensures.order.mask).legal

pub returns-clause-plain : goal.returns-clause-plain
returns-clause-plain c plain =
    let was = subst (λ (v : LeanView). IsPlainlyLegal v.rules v.history) (sym c.self.view_is) plain in
    rw (c.put.ensures.history, c.open_upcoming-order.ensures.state, c.open_upcoming-order.ensures.order.cycle)
    (plain-more _ _ _ c.self.inside.core _ refl tt (state-opened _ _ _ c.known.ensures.core c.self.invariant.0 _ c.open_upcoming-order.ensures.order.mask) was)
