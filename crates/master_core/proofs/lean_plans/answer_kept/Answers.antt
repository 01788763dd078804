use Rattle.std.proofs.Common.{◌≡◌, ◌∙◌, ℕ, true, ap, subst, sym, arith}
use Rattle.master_core.specs.declared.answer.Answer.{Answer}
use Rattle.master_core.specs.Answers.{AreKept, answer_at}
use Rattle.master_core.specs.CorePlans.{CorePlannedView}
use Rattle.master_core.specs.Kept.{CanSettleKept, IsSettledAs, kept_from, lean_of}
use Rattle.master_core.proofs.KeptPlans.{kept-anew, kept-by_plan}
use Rattle.master_core.proofs.lean_plans.answer_kept.Goals as goal

pub returns-then-snapshot-accepted : goal.returns-then-snapshot-accepted
returns-then-snapshot-accepted c =
    record {
      settled = λ history spare keeps of can.
          let apart : c.planned.inside.snapshot.accepted ≡ c.args.core.now.accepted → ⊥ = λ same. (let both = same ∙ sym c.accepted.ensures.accepted in absurd (grind arith)) in
          subst (λ (p : CorePlannedView). IsSettledAs history c.args.core.now p.change (kept_from history p) c.in_ok-anew.anew) c.planned.view_is
          (kept-anew c.args.core.now c.known.ensures.core c.planned.inside.snapshot c.planned.inside.answer c.in_ok-anew.anew apart c.in_ok-anew.ensures.answer
          c.in_ok-anew.ensures.change c.in_ok-anew.ensures.answered.from c.in_ok-anew.ensures.right history of);
    }

pub returns : goal.returns
returns c =
    record {
      settled = λ history spare keeps of can.
          let same : c.planned.inside.snapshot.accepted ≡ c.accepted.result = grind arith in
          let at : c.at_next-answer.result ≡ answer_at c.args.core.now.cycle c.planned.inside.answer =
          c.at_next-answer.ensures.same ∙ ap (λ (n : ℕ). answer_at n c.planned.inside.answer) c.next.ensures.next in
          let kept = subst (λ (a : Answer). AreKept true a.from a.made c.kept.result.made) at c.kept.ensures.made in
          let kept_is : c.kept.result ≡ record (answer_at c.args.core.now.cycle c.planned.inside.answer) { made = c.kept.result.made } =
          c.kept.ensures.same ∙ ap (λ (a : Answer). record a { made = c.kept.result.made }) at in
          subst (λ (p : CorePlannedView). IsSettledAs history c.args.core.now p.change (kept_from history p) c.kept.result) c.planned.view_is
          (subst (IsSettledAs history c.args.core.now c.planned.inside.answer.change _) (sym kept_is)
          (kept-by_plan c.args.core.now c.known.ensures.core c.pruned_lists.ensures.verdict c.pruned_lists.ensures.trail c.planned.inside.snapshot c.planned.inside.answer
          c.planned.invariant.1 (same ∙ c.accepted.ensures.accepted) c.kept.result.made kept history spare keeps of
          (subst (λ (p : CorePlannedView). CanSettleKept (lean_of c.args.core.now history spare keeps) p) (sym c.planned.view_is) can)));
    }
