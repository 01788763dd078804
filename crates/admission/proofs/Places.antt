-- Places on the walk over a planning: the planning stands at the state, or passes the cycles from there on.
use Rattle.std.proofs.Common.{◌≡◌, ℕ, ◌+◌, ◌<◌, ◌≤◌, Some, sym, ◌∙◌, subst, arith}
use Rattle.planner_policies.specs.declared.state.PlanState.{PlanState}
use Rattle.planner_policies.specs.Plan.{IsValid, Ranking, Standing, planning_of}
use Rattle.release_wheel.specs.Passed.{LeavesSame}
use Rattle.admission.specs.Course.{state_behind, state_in}
use Rattle.admission.specs.Walked.{IsOn}
use Rattle.admission.proofs.Same.{behind-planned, state-same}

-- a planning that stands at a state, field by field
pub same-standing : (standing : Standing) (state : PlanState) → standing.cycle ≡ state.cycle → standing.pending ≡ state.pending
    → standing ≡ record { ranking = standing.ranking; cycle = state.cycle; pending = state.pending }
same-standing standing state cycle pending = grind arith

-- the planning stands where it passed the cycles from the state on
pub on-passed : (ranking : Ranking) (window : ℕ) (old new : Standing) (state : PlanState) → old.ranking ≡ ranking → new.ranking ≡ ranking
    → new.pending ≡ old.pending → state.cycle ≡ old.cycle → state.pending ≡ old.pending → old.cycle ≤ new.cycle
    → ((c : ℕ) → old.cycle ≤ c → c ≤ new.cycle → IsValid old.ranking.placed c old.pending)
    → ((c : ℕ) → old.cycle ≤ c → c < new.cycle → LeavesSame (planning_of old.ranking window c old.pending)) → IsOn ranking window new state
on-passed ranking window old new state was is still cycle_is pending_is onward valid passed = record {
  ranking_is = is;
  pending_is = still ∙ sym pending_is;
  onward = omega arith;
  valid = grind arith;
  passed = λ c from to.
      subst (λ q. LeavesSame (planning_of ranking window c q)) (sym pending_is)
      (subst (λ r. LeavesSame (planning_of r window c old.pending)) was (passed c (omega arith) to));
}

module _ (ranking : Ranking) (window : ℕ) (here : Standing) (state : PlanState) (on : IsOn ranking window here state) where
  -- the planning stands at a later cycle, so the next state differs by its cycle alone
  module _ (next : PlanState) (cycle_is : next.cycle ≡ state.cycle + 1) (pending_is : next.pending ≡ state.pending)
      (less : state.cycle < here.cycle) where
    pub on-next : IsOn ranking window here next
    on-next = record {
      ranking_is = on.ranking_is;
      pending_is = on.pending_is ∙ sym pending_is;
      onward = omega arith;
      valid = λ c from to. subst (λ q. IsValid ranking.placed c q) (sym pending_is) (on.valid c (omega arith) to);
      passed = λ c from to. subst (λ q. LeavesSame (planning_of ranking window c q)) (sym pending_is) (on.passed c (omega arith) to);
    }

    pub behind-passed : Some next ≡ state_behind ranking window state
    behind-passed =
        let here = on.passed state.cycle (omega arith) less in
        behind-planned ranking window state next here.none_missed cycle_is (pending_is ∙ here.left)

  -- else it stands at the state
  pub stands-here : here.cycle ≤ state.cycle → state_in here ≡ state
  stands-here not_later = grind (arith, state-same)
