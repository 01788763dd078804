-- A stretch of states before which the same slots are pending. They differ by their cycles alone.
use Rattle.std.proofs.Common.{◌≡◌, ℕ, ◌+◌, ◌-◌, ◌≤◌, Option, refl, sym, ◌∙◌, subst, arith}
use Rattle.planner_policies.specs.declared.state.PlanState.{PlanState}
use Rattle.planner_policies.specs.Plan.{IsValid, Ranking, Standing, planning_of}
use Rattle.recurrence_check.specs.Course.{Course}
use Rattle.recurrence_check.specs.Stretch.{IsStretch, further}
use Rattle.release_wheel.specs.Passed.{LeavesSame}
use Rattle.admission.specs.Course.{IsGoodState, course_of, key_in_period}
use Rattle.admission.specs.Walked.{IsOn, AreKeys}
use Rattle.admission.proofs.Same.{behind-planned, state-same}

-- a stretch of no states
pub stretch-none : {State : Type 0} (course : Course State) (is_good : State → Type 0) (number : State → ℕ)
    (key_of : State → Option (ℕ × ℕ)) (here : State) (key : Option (ℕ × ℕ)) → IsStretch course is_good number key_of here here 0 key
stretch-none course is_good number key_of here key = record {
  state = λ k. here;
  begins = refl;
  ends = refl;
  goes_on = λ k below. absurd (omega arith);
  good = λ k below. absurd (omega arith);
  number_is = λ k below. absurd (omega arith);
  key_is = λ k below. absurd (omega arith);
}

module _ (ranking : Ranking) (window : ℕ) (here : Standing) (state next : PlanState) (steps : ℕ) (on : IsOn ranking window here state)
    (cycle_is : next.cycle ≡ state.cycle + steps) (pending_is : next.pending ≡ state.pending)
    (within : state.cycle + steps ≤ here.cycle) where
  -- the planning stands at the last state, or at a later cycle
  pub on-later : IsOn ranking window here next
  on-later = record {
    ranking_is = on.ranking_is;
    pending_is = on.pending_is ∙ sym pending_is;
    onward = omega (arith, cycle_is, within);
    valid = λ c from to. subst (λ q. IsValid ranking.placed c q) (sym pending_is) (on.valid c (omega (arith, cycle_is)) to);
    passed = λ c from to. subst (λ q. LeavesSame (planning_of ranking window c q)) (sym pending_is) (on.passed c (omega (arith, cycle_is)) to);
  }

  pub stretch-passed : (first : PlanState) (bound : ℕ) (period : Option ℕ) (key : Option (ℕ × ℕ)) → first.cycle ≤ state.cycle
      → AreKeys bound period state steps key
      → IsStretch (course_of ranking window first bound period) (λ s. IsGoodState ranking first.cycle s)
      (λ s. s.cycle - first.cycle) (λ s. key_in_period bound period s) state next steps key
  stretch-passed first bound period key begun keys =
      let at : ℕ → PlanState = λ k. record { cycle = state.cycle + k; pending = state.pending } in
      record {
        state = at;
        begins = state-same (at 0) state (omega arith) refl;
        ends = state-same (at steps) next (sym cycle_is) (sym pending_is);
        goes_on = λ k below.
            let quiet = on.passed (state.cycle + k) (omega arith) (omega (arith, below, within)) in
            sym (behind-planned ranking window (at k) (at (k + 1)) quiet.none_missed (omega arith) quiet.left);
        good = λ k below. record {
          held = on.valid (state.cycle + (k + 1)) (omega arith) (omega (arith, below, within));
          begun = omega (arith, begun);
        };
        number_is = λ k below. omega (arith, begun);
        key_is = λ k below.
            let there : state.cycle + 1 + k ≡ state.cycle + (k + 1) = omega arith in
            subst (λ n. key_in_period bound period (record { cycle = n; pending = state.pending }) ≡ further key k) there (keys k below);
      }
