use Rattle.std.proofs.Common.{◌≡◌, ◌+◌, ◌≤◌, ℕ, Bool, true, List, [], ◌∷◌, ◌++◌, ap, ◌∙◌, refl, subst, sym}
use mir.Val.{bool_byte}
use Rattle.master_core.specs.Answers.{IsAnswerAs, entries_of}
use Rattle.master_core.specs.Cores.{CoreView, IsHeld, IsStateAs, answered_as, most_kept}
use Rattle.master_core.specs.History.{IsRightAnswer, placed_of}
use Rattle.master_core.specs.declared.event.Event.{Event}
use Rattle.master_core.specs.declared.event.Event.TheVariants.{Submit}
use Rattle.master_core.proofs.CoreSteps.{core-after, put-then}
use Rattle.master_core.proofs.States.{state-answered}
use Rattle.master_core.proofs.cores.Core.put.Goals as goal

pub invariant_of-self : goal.invariant_of-self
invariant_of-self c =
    let to = subst (λ (v : CoreView). (prunes : Bool) × IsAnswerAs prunes v c.args.answer) (sym c.self.view_is) c.requires.answer in
    let short = subst (λ (v : CoreView). v.forgets ≡ true → entries_of c.args.answer.made ≤ most_kept) (sym c.self.view_is) c.requires.short in
    core-after _ _ _ c.self.invariant.0 c.self.invariant.1 c.safe_states.ensures.found c.safe_states.ensures.later c.safe_states.ensures.pruned to.0 c.args.answer to.1 _ _ _ _ _
    c.take_over.ensures refl refl (c.from.ensures ∙ ap bool_byte c.is_accepted.ensures.test) short refl refl

pub returns-clause-state : goal.returns-clause-state
returns-clause-state c =
    let after : CoreView = record {
      rules = c.self.inside.rules;
      placed = c.take_over.new.table.placed.items;
      cycle = c.self.inside.state.cycle;
      pending = c.self.inside.state.pending;
      learned = c.take_over.new.learned;
      accepted = c.self.inside.accepted + c.from.result;
      forgets = c.self.inside.forgets;
    } in
    subst
    (λ (v : CoreView). (prunes : Bool) → IsAnswerAs prunes v c.args.answer → after
    ≡ answered_as prunes v c.args.answer.from c.args.answer.change c.args.answer.verdict)
    c.self.view_is
    (λ prunes to.
    put-then _ _ _ c.self.invariant.0 c.self.invariant.1 c.safe_states.ensures.found c.safe_states.ensures.later c.safe_states.ensures.pruned prunes c.args.answer to
    c.self.inside.table c.take_over.new.table c.self.inside.learned c.take_over.new.learned c.from.result c.take_over.ensures refl refl
    (c.from.ensures ∙ ap bool_byte c.is_accepted.ensures.test))

pub returns-clause-history : goal.returns-clause-history
returns-clause-history c =
    subst
    (λ (v : CoreView). (prunes : Bool) (history : List Event) (caller : ℕ) → IsAnswerAs prunes v c.args.answer → IsStateAs prunes history v
    → IsHeld prunes c.args.answer.from (placed_of history) v.placed
    → IsRightAnswer v.rules history c.args.answer.change c.args.answer.from c.args.answer.verdict c.args.answer.trail
    → IsStateAs prunes (history ++ Submit caller c.args.answer.change c.args.answer.from c.args.answer.verdict c.args.answer.trail ∷ []) (record {
      rules = c.self.inside.rules;
      placed = c.take_over.new.table.placed.items;
      cycle = c.self.inside.state.cycle;
      pending = c.self.inside.state.pending;
      learned = c.take_over.new.learned;
      accepted = c.self.inside.accepted + c.from.result;
      forgets = c.self.inside.forgets;
    }))
    c.self.view_is
    (λ prunes history caller to of held right.
    subst (IsStateAs prunes (history ++ Submit caller c.args.answer.change c.args.answer.from c.args.answer.verdict c.args.answer.trail ∷ []))
    (sym
    (put-then _ _ _ c.self.invariant.0 c.self.invariant.1 c.safe_states.ensures.found c.safe_states.ensures.later c.safe_states.ensures.pruned prunes c.args.answer to
    c.self.inside.table c.take_over.new.table c.self.inside.learned c.take_over.new.learned c.from.result c.take_over.ensures refl refl
    (c.from.ensures ∙ ap bool_byte c.is_accepted.ensures.test)))
    (state-answered prunes history _ c.self.invariant.0 of caller c.args.answer.change c.args.answer.from c.args.answer.verdict c.args.answer.trail to.early held right))
