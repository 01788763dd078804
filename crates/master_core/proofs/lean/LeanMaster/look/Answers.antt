use Rattle.std.proofs.Common.{◌∙◌, refl, subst, sym}
use Rattle.master_core.specs.declared.event.Event.TheVariants.{Look}
use Rattle.master_core.specs.History.{IsPlainlyLegal}
use Rattle.master_core.specs.Journals.{LeanView}
use Rattle.master_core.proofs.Growing.{all-same}
use Rattle.master_core.proofs.Histories.{plain-push}
use Rattle.master_core.proofs.States.{state-looked}
use Rattle.master_core.proofs.lean.LeanMaster.look.Goals as goal

pub invariant_of-self : goal.invariant_of-self
invariant_of-self c =
    rw (c.put.ensures.history, c.put.ensures.keeps, c.next-next.ensures.next) (
      state-looked _ _ _ c.known.ensures.core c.self.invariant.0 c.args.caller,
      c.self.invariant.1,
      c.self.invariant.2 ∙ all-same c.self.inside.journal.keeps c.self.inside.journal.history (Look c.args.caller c.self.inside.core.cycle) refl,
    )

pub returns-clause-legal : goal.returns-clause-legal
returns-clause-legal c =
    rw (c.put.ensures.history, c.next-next.ensures.next) (state-looked _ _ _ c.known.ensures.core c.self.invariant.0 c.args.caller).legal

pub returns-clause-plain : goal.returns-clause-plain
returns-clause-plain c plain =
    let was = subst (λ (v : LeanView). IsPlainlyLegal v.rules v.history) (sym c.self.view_is) plain in
    rw (c.put.ensures.history, c.next-next.ensures.next)
    (plain-push _ _ _ tt (state-looked _ _ _ c.known.ensures.core c.self.invariant.0 c.args.caller).legal was)
