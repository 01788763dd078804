use Rattle.std.proofs.Common.{◌≡◌, ◌∙◌, ap, sym}
use Rattle.master_core.specs.History.{placed_of}
use Rattle.master_core.specs.Journals.{LeanView}
use Rattle.master_core.proofs.KeptPlans.{all-is, plannable-is}
use Rattle.master_core.proofs.lean.LeanMaster.snapshot.Goals as goal

pub returns-clause-plannable : goal.returns-clause-plannable
returns-clause-plannable c =
    let all : c.in-Some.all ≡ placed_of c.self.inside.journal.history =
    all-is _ c.self.inside.journal.history c.in-Some.all (ap (λ (v : LeanView). v.keeps) c.self.view_is ∙ c.requires.keeps) (sym c.in-Some.is ∙ c.self.invariant.2) in
    rw (c.rules.ensures.rules, c.in_ok-placed-in-Some.ensures.same, c.placed.ensures.list, all, c.state.ensures.cycle, c.state.ensures.pending, c.accepted.ensures.accepted)
    (plannable-is _ _ c.known.ensures.core c.self.invariant.0)
