use Rattle.std.proofs.Common.{◌≡◌, sym, ◌∙◌, subst, arith, inl, inr, length}
use Rattle.std.specs.Prelude.{count_by}
use Rattle.std.proofs.lemmas.Bool.{cases_lt}
use Rattle.std.proofs.lemmas.Bool.Decides.{nat_tests}
use Rattle.live_master.specs.Callers.{is_called_by}
use Rattle.live_steps.specs.Live.{acts_of}
use Rattle.trace_audit.proofs.auditor.answers_all.Goals as goal

pub loop-operator-preserved : goal.loop-operator-preserved
loop-operator-preserved c = record {
  so_far = λ operator some less. elim (cases_lt operator c.loop-operator.operator) [
    | inl before ↦ c.loop-operator.invariant.so_far operator some before
    | inr last ↦
        let is : c.loop-operator.operator ≡ operator = omega (arith, last, less) in
        let test = c.if-calls_of-acts_of.false in
        let same : c.calls_of.result ≡ c.acts_of.result = grind (arith, nat_tests) in
        subst (λ k. count_by (is_called_by k) c.args.history.now ≡ length (acts_of k c.args.steps.now)) is
        (sym c.calls_of.ensures.count ∙ same ∙ c.acts_of.ensures.count)
  ];
}
