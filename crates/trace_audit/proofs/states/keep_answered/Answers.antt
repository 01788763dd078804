use Rattle.std.proofs.Common.{[], ◌∷◌, ap, refl, sym, subst, ◌∙◌}
use Rattle.planner_policies.specs.Plan.{IsValid}
use Rattle.planner_policies.specs.declared.state.PlanState.{PlanState}
use Rattle.master_core.specs.declared.event.Event.TheVariants.{Submit}
use Rattle.trace_audit.proofs.Bringing.{ok-both}
use Rattle.trace_audit.proofs.Settling.{keeps-accepted, keeps-refused}
use Rattle.trace_audit.proofs.states.keep_answered.Goals as goal

pub returns-then-not-is_accepted : goal.returns-then-not-is_accepted
returns-then-not-is_accepted c = record {
  kept = λ rules history caller change from trail placed behind keeps stays state valid held.
      let refused = sym c.is_accepted.ensures.test ∙ c.if-not-is_accepted.true in
      keeps-refused rules history (Submit caller change from c.args.verdict trail) placed behind c.args.states.now refl refused
      (stays refused) keeps;
}

pub returns : goal.returns
returns c = record {
  kept = ok-both c.restart.result c.restart.ensures.since c.restart.ensures.one
      (λ since one rules history caller change from trail placed behind keeps stays state valid held.
      let accepted = sym c.is_accepted.ensures.test ∙ c.if-not-is_accepted.false in
      keeps-accepted rules history (Submit caller change from c.args.verdict trail) behind c.restart.new.self refl accepted
      (since ∙ ap (λ s. s.cycle) state) (one ∙ ap (λ s. s ∷ []) state)
      (subst (λ (s : PlanState). IsValid behind s.cycle s.pending) state valid) held);
}
