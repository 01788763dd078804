use Rattle.std.proofs.Common.{◌≡◌, ℕ, List, [], ◌∷◌, ◌++◌, IfOk, subst, sym}
use Rattle.master_core.specs.declared.event.Event.TheVariants.{Submit}
use Rattle.master_core.specs.Journals.{LeanView}
use Rattle.master_core.specs.Kept.{CanSettleKept, kept_behind, kept_from}
use Rattle.master_core.proofs.KeptPlans.{told-event, told-placed}
use Rattle.master_core.proofs.lean.LeanMaster.settle_kept.Goals as goal

pub put_answer-requires : goal.put_answer-requires
put_answer-requires c =
    let by = c.in_ok-answer.ensures.settled _ _ _ c.self.invariant.0 (subst (λ (v : LeanView). CanSettleKept v c.args.planned) (sym c.self.view_is) c.requires.planned) in
    record {
      caller = c.requires.caller;
      state = c.self.invariant.0;
      forgets = c.self.invariant.1;
      all = c.self.invariant.2;
      held = by.held;
      answer = by.to;
      right = by.right;
    }

pub returns-clause-event : goal.returns-clause-event
returns-clause-event c =
    let by = c.in_ok-answer.ensures.settled _ _ _ c.self.invariant.0 (subst (λ (v : LeanView). CanSettleKept v c.args.planned) (sym c.self.view_is) c.requires.planned) in
    subst
    (λ (v : LeanView). IfOk c.put_answer.result (λ verdict. (trail : List ℕ) × (c.put_answer.new.journal.history
    ≡ v.history ++ Submit c.args.caller c.args.planned.change (kept_from v.history c.args.planned) verdict trail ∷ [])))
    c.self.view_is
    (told-event c.put_answer.result c.self.inside.journal.history c.put_answer.new.journal.history c.args.caller c.args.planned.change
    (kept_from c.self.inside.journal.history c.args.planned) c.in_ok-answer.answer by.asked by.first c.put_answer.ensures.verdict c.put_answer.ensures.event)

pub returns-clause-placed : goal.returns-clause-placed
returns-clause-placed c =
    let by = c.in_ok-answer.ensures.settled _ _ _ c.self.invariant.0 (subst (λ (v : LeanView). CanSettleKept v c.args.planned) (sym c.self.view_is) c.requires.planned) in
    subst
    (λ (v : LeanView). IfOk c.put_answer.result (λ verdict. c.put_answer.new.core.placed
    ≡ kept_behind v.placed (kept_from v.history c.args.planned) c.args.planned.change verdict))
    c.self.view_is
    (told-placed c.put_answer.result c.self.inside.core.placed c.put_answer.new.core.placed c.args.planned.change
    (kept_from c.self.inside.journal.history c.args.planned) c.in_ok-answer.answer by.asked by.first c.put_answer.ensures.verdict c.put_answer.ensures.placed)
