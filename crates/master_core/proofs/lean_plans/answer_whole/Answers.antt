use Rattle.std.proofs.Common.{◌≡◌, ◌∙◌, ℕ, true, ap, subst, sym, arith}
use Rattle.master_core.specs.declared.answer.Answer.{Answer}
use Rattle.master_core.specs.Answers.{AreKept, answer_at}
use Rattle.master_core.specs.Apart.{PlannedView, from_of}
use Rattle.master_core.specs.Kept.{IsSettledAs}
use Rattle.master_core.proofs.WholePlans.{whole-anew, whole-settled}
use Rattle.master_core.proofs.lean_plans.answer_whole.Goals as goal

pub returns-then-accepted : goal.returns-then-accepted
returns-then-accepted c =
    record {
      settled = λ history of can held.
          let told = ap (λ (p : PlannedView). p.accepted) c.planned.view_is in
          let apart : c.args.planned.accepted ≡ c.args.core.now.accepted → ⊥ = λ same. (let both = told ∙ same ∙ sym c.accepted.ensures.accepted in absurd (grind arith)) in
          whole-anew c.args.core.now c.known.ensures.core c.args.planned c.args.change.now c.in_ok-anew.anew apart c.in_ok-anew.ensures.answer
          c.in_ok-anew.ensures.change c.in_ok-anew.ensures.answered.from c.in_ok-anew.ensures.right history of;
    }

pub returns : goal.returns
returns c =
    record {
      settled = λ history of can held.
          let same : c.planned.inside.accepted ≡ c.accepted.result = grind arith in
          let at : c.at_next-answer.result ≡ answer_at c.args.core.now.cycle c.planned.inside.answer =
          c.at_next-answer.ensures.same ∙ ap (λ (n : ℕ). answer_at n c.planned.inside.answer) c.next.ensures.next in
          let kept = subst (λ (a : Answer). AreKept true a.from a.made c.kept.result.made) at c.kept.ensures.made in
          let kept_is : c.kept.result ≡ record (answer_at c.args.core.now.cycle c.planned.inside.answer) { made = c.kept.result.made } =
          c.kept.ensures.same ∙ ap (λ (a : Answer). record a { made = c.kept.result.made }) at in
          subst (IsSettledAs history c.args.core.now c.args.change.now (from_of history c.args.planned)) (sym kept_is)
          (whole-settled c.args.core.now c.known.ensures.core c.args.planned c.planned.inside.rules c.planned.inside.accepted c.planned.inside.answer c.planned.view_is
          c.planned.invariant.0 c.planned.invariant.1 (same ∙ c.accepted.ensures.accepted) c.kept.result.made kept history c.args.change.now of can held);
    }
